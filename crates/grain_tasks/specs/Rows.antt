-- Rows of chunks that are drawn, and what was drawn of them, as contracts see them.
use Rattle.std.specs.Prelude.{◌≡◌, ℕ, ◌+◌, ◌*◌, ◌<◌, ◌≤◌, min, List, [], ◌∷◌, ◌++◌}
use Rattle.atomic_table.specs.Seated.{TableId}
use Rattle.grain_tasks.specs.declared.chunk.Chunk.{Chunk}
use Rattle.grain_tasks.specs.declared.row_view.RowShape.{RowShape}
use Rattle.grain_tasks.specs.declared.errors.GrainError.{GrainError}
use Rattle.grain_tasks.specs.declared.errors.GrainError.TheVariants.{ZeroGrain, TooMany, NoMemory}
use Rattle.grain_tasks.specs.Chunks.{HaveEachOnce}

-- which row it is: the name of its table, how many indices it has, how many a chunk has, and how many seats draw
pub record RowState : Type 0 where
  pub id : TableId
  pub shape : RowShape

-- the row of a seat that draws, the chunks that it has drawn, and up to which index it knows that the row is drawn
pub record DrawState : Type 0 where
  pub row : RowState
  pub drawn : List Chunk
  pub reached : ℕ

-- the row of seats that have drawn all they could, how many seats they are, and the chunks that they drew
pub record DrainedState : Type 0 where
  pub row : RowState
  pub seats : ℕ
  pub drawn : List Chunk

abbrev pub draw_state : RowState → List Chunk → ℕ → DrawState
draw_state row drawn reached = record { row = row; drawn = drawn; reached = reached }

abbrev pub row_shape : ℕ → ℕ → ℕ → RowShape
row_shape count grain seats = record { count = count; grain = grain; seats = seats }

-- what a row may be: chunks that aren't empty, and numbers that can't wrap
pub record IsShape (shape : RowShape) : Type 0 where
  pub some : 1 ≤ shape.grain
  pub few : shape.count ≤ 1099511627776
  pub small : shape.grain ≤ 1000000
  pub seats : 1 ≤ shape.seats
  pub few_seats : shape.seats ≤ 16

-- The chunk that begins at a number that was drawn below the count. Such a number is a multiple of the grain.
pub record IsDrawnChunk (shape : RowShape) (chunk : Chunk) : Type 0 where
  pub place : ℕ
  pub from : chunk.from ≡ place * shape.grain
  pub below : chunk.from < shape.count
  pub to : chunk.to ≡ min (chunk.from + shape.grain) shape.count

-- The next chunk of a seat is behind all that it knows to be drawn.
pub record DrawsNext (before : DrawState) (chunk : Chunk) (after : DrawState) : Type 0 where
  pub row : after.row ≡ before.row
  pub drawn_chunk : IsDrawnChunk before.row.shape chunk
  pub behind : before.reached ≤ chunk.from
  pub drawn : after.drawn ≡ before.drawn ++ chunk ∷ []
  pub reached : after.reached ≡ chunk.from + before.row.shape.grain

-- Where all seats of a row are drained, their chunks have each index below the count once, and no other.
abbrev pub IsWholeWhenAll : DrainedState → Type 0
IsWholeWhenAll d = d.seats ≡ d.row.shape.seats → HaveEachOnce d.row.shape.count d.drawn

-- A seat that finds the row drawn keeps what it drew.
pub record Drains (before : DrawState) (after : DrainedState) : Type 0 where
  pub row : after.row ≡ before.row
  pub seats : after.seats ≡ 1
  pub drawn : after.drawn ≡ before.drawn
  pub whole : IsWholeWhenAll after

-- What two drained seats, or more, drew is put together.
pub record GathersBoth (a b after : DrainedState) : Type 0 where
  pub row : after.row ≡ a.row
  pub seats : after.seats ≡ a.seats + b.seats
  pub drawn : after.drawn ≡ a.drawn ++ b.drawn
  pub whole : IsWholeWhenAll after

-- Why no row is made: `ZeroGrain` exactly where a chunk would have no index.
abbrev pub RefusesRow : ℕ → GrainError → Type 0
RefusesRow grain ZeroGrain = grain ≡ 0
RefusesRow grain (TooMany k) = ⊥
RefusesRow grain NoMemory = 1 ≤ grain

-- What the seats of a row know, its rule, and what each step makes of a view.
use Rattle.std.specs.Prelude.{◌≡◌, ℕ, ◌+◌, ◌*◌, ◌-◌, ◌<◌, ◌≤◌, min, Bool, true, false, cond, List, [], ◌∷◌, ◌++◌, length, count_by, nat_lt, slice_index}
use mathlib.Core.Option.{some}
use lib.ListN.{get_elem?}
use Rattle.atomic_table.specs.Table.{Step, Me}
use Rattle.grain_tasks.specs.declared.chunk.Chunk.{Chunk}
use Rattle.grain_tasks.specs.declared.row_view.RowShape.{RowShape}
use Rattle.grain_tasks.specs.declared.row_view.View.{View}
use Rattle.grain_tasks.specs.Chunks.{HaveEachOnce, has_index}

-- what all views count
abbrev pub total : (View → ℕ) → List View → ℕ
total f [] = 0
total f (v ∷ vs) = f v + total f vs

abbrev pub seats_of : View → ℕ
seats_of v = v.seats

abbrev pub late_of : View → ℕ
late_of v = v.late

-- how many of the chunks that a view has drawn have an index
abbrev pub times_in : ℕ → View → ℕ
times_in i v = count_by (has_index i) v.drawn

-- the view of so many seats that have drawn nothing
abbrev pub fresh_view : RowShape → ℕ → View
fresh_view shape seats = record { shape = shape; seats = seats; late = 0; reached = 0; drawn = [] }

abbrev pub first_view : RowShape → View
first_view shape = fresh_view shape shape.seats

-- A seat has drawn past the count at most once, and only if the word is past it; what stands for no seat has drawn
-- nothing; and no view knows more to be drawn than is.
pub record Fits (count word : ℕ) (v : View) : Type 0 where
  pub late : v.late ≤ v.seats
  pub past : 0 < v.late → count ≤ word
  pub idle : v.seats ≡ 0 → v.drawn ≡ []
  pub reached : v.reached ≤ word

-- The word is the next number to be drawn, a multiple of the grain. Each index below the word and the count is in
-- one chunk of one view, and no other is. So the numbers drawn below the count are 0, the grain, twice the grain
-- and so on, each in one view once. The word passes the count by no more than the seats can draw.
pub record IsRow (shape : RowShape) (words : List ℕ) (views : List View) : Type 0 where
  pub size : length words ≡ 16
  pub place : ℕ
  pub multiple : slice_index words 8 ≡ place * shape.grain
  pub seats : total seats_of views ≡ shape.seats
  pub small : slice_index words 8 < shape.count + 1000000 * (1 + total late_of views)
  pub once : (i : ℕ) → total (times_in i) views ≡ cond (nat_lt i (min (slice_index words 8) shape.count)) 1 0
  pub fits : (k : ℕ) (v : View) → get_elem? views k ≡ some v → Fits shape.count (slice_index words 8) v

-- the chunk that begins at a number
abbrev pub chunk_from : RowShape → ℕ → Chunk
chunk_from shape n = record { from = n; to = min (n + shape.grain) shape.count }

-- a view after a number was drawn that is below the count, and after one that isn't
abbrev pub drawn_by : Bool → ℕ → View → View
drawn_by true n v = record { shape = v.shape; seats = v.seats; late = v.late; reached = n + v.shape.grain; drawn = v.drawn ++ chunk_from v.shape n ∷ [] }
drawn_by false n v = record { shape = v.shape; seats = v.seats; late = v.late + 1; reached = v.reached; drawn = v.drawn }

abbrev pub view_drawn : ℕ → View → View
view_drawn n v = drawn_by (nat_lt n v.shape.count) n v

-- what stands for all seats, one of which found the row drawn, has each index once
abbrev pub IsSettled : View → Type 0
IsSettled v = v.seats ≡ v.shape.seats → 0 < v.late → HaveEachOnce v.shape.count v.drawn

-- What a draw tells: the number is a multiple of the grain, and no lower than what was known to be drawn.
pub record Told (n : ℕ) (v : View) : Type 0 where
  pub place : ℕ
  pub multiple : n ≡ place * v.shape.grain
  pub behind : v.reached ≤ n

module _ {S : Type 0} where
  abbrev pub Draws : Step S → Me S View → ℕ → Me S View → Type 0
  Draws s me n me' = (me' ≡ (view_drawn n me.0, me.1)) × Told n me.0

  abbrev pub Learns : Step S → Me S View → ℕ → Me S View → Type 0
  Learns s me n me' = (me' ≡ me) × IsSettled me.0

-- a view without one of its seats, and that seat
abbrev pub one_fewer : View → View
one_fewer v = record { shape = v.shape; seats = v.seats - 1; late = v.late; reached = v.reached; drawn = v.drawn }

abbrev pub one_seat : View → View
one_seat v = fresh_view v.shape 1

-- two views put together, and what is left of the second
abbrev pub both_views : View → View → View
both_views v w = record { shape = v.shape; seats = v.seats + w.seats; late = v.late + w.late; reached = v.reached; drawn = v.drawn ++ w.drawn }

abbrev pub spent_view : View
spent_view = fresh_view (record { count = 0; grain = 0; seats = 0 }) 0

-- What seats drew and folded.
use Rattle.std.specs.Prelude.{◌≡◌, ℕ, ◌<◌, ◌≤◌, List, map}
use Rattle.std.specs.List.{AllByRecursion}
use Rattle.grain_tasks.specs.declared.chunk.Chunk.{Chunk}
use Rattle.grain_tasks.specs.declared.reduce.Folded.{Folded}
use Rattle.grain_tasks.specs.declared.reduce.Part.{Part}
use Rattle.grain_tasks.specs.Chunks.{chunk_fold}
use Rattle.grain_tasks.specs.Folds.{Folding}
use Rattle.grain_tasks.specs.Rows.{IsWholeWhenAll, RowState}

abbrev pub chunk_in : {V : Type 0} → Part V → Chunk
chunk_in part = part.chunk

abbrev pub chunks_in : {V : Type 0} → List (Part V) → List Chunk
chunks_in parts = map chunk_in parts

-- a chunk that isn't empty, and its fold
pub record IsFolded {F V : Type 0} (folding : Folding F V) (f : F) (count : ℕ) (part : Part V) : Type 0 where
  pub order : part.chunk.from < part.chunk.to
  pub within : part.chunk.to ≤ count
  pub folded : part.value ≡ chunk_fold folding f part.chunk

abbrev pub AreFoldedParts : {F V : Type 0} → Folding F V → F → ℕ → List (Part V) → Type 0
AreFoldedParts folding f count parts = AllByRecursion (IsFolded folding f count) parts

-- what so many seats of a row drew, and the folds of their chunks
pub record IsFoldedBy {F V : Type 0} (folding : Folding F V) (f : F) (row : RowState) (seats : ℕ) (folded : Folded V) : Type 0 where
  pub row_is : folded.drained.row ≡ row
  pub seats_are : folded.drained.seats ≡ seats
  pub drawn : chunks_in folded.parts.items ≡ folded.drained.drawn
  pub parts : AreFoldedParts folding f row.shape.count folded.parts.items
  pub whole : IsWholeWhenAll folded.drained

abbrev pub value_in : {V : Type 0} → Part V → V
value_in part = part.value

-- each of these folds is allowed
abbrev pub AreAllowed : {F V : Type 0} → Folding F V → F → List (Part V) → Type 0
AreAllowed folding f parts = AllByRecursion (folding.allowed f) (map value_in parts)

-- where the chunk of a part begins
abbrev pub begin_of : {V : Type 0} → Part V → ℕ
begin_of part = part.chunk.from

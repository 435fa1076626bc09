-- Frames of a crew, by number.
use Rattle.std.specs.Prelude.{◌≡◌, ℕ, List, map, slice_index_or}
use Rattle.boxcar.specs.Slot.{Named}
use Rattle.boxcar.specs.Table.{Shelves, Where}
use Rattle.table_runs.specs.RunKeys.{FrameKey}

-- the name of a crew's numbered frames: those of the shelves that they are on
abbrev pub shelf_names : Shelves → List ℕ
shelf_names shelves = map (λ (shelf : Named). shelf.id) shelves.buckets

-- the token is of the frames of this name
abbrev pub IsShownBy : {T : Type 0} → List ℕ → Where T → Type 0
IsShownBy names token = token.row ≡ slice_index_or names token.bucket 0

-- the number of a frame: the name of the crew's numbered frames, the index there, and the keys of the frame and of
-- those around it
pub record NumberView (J : Type 0) : Type 0 where
  pub begun : List ℕ
  pub index : ℕ
  pub frames : List (FrameKey J)

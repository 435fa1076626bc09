-- The runs around one, by one thread.
use Rattle.std.specs.Prelude.{ℕ, List, [], Option, Some, None}
use Rattle.std.specs.Global.{Box}
use Rattle.table_runs.specs.RunKeys.{FrameKey}

-- the keys of a run and of those around it, and the spans that these have so far, with those of the runs inside them
-- that are over
pub record LevelView (J : Type 0) : Type 0 where
  pub frames : List (FrameKey J)
  pub spans : ℕ

abbrev pub levels_around : {J : Type 0} → Option (Box (LevelView J)) → List (FrameKey J)
levels_around None = []
levels_around (Some level) = level.value.frames

abbrev pub spans_around : {J : Type 0} → Option (Box (LevelView J)) → ℕ
spans_around None = 0
spans_around (Some level) = level.value.spans

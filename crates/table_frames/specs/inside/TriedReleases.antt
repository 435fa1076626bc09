-- A release of a frame that was taken up, and what its work has come to.
use Rattle.std.specs.Prelude.{◌≡◌, List, [], ◌∷◌, None}
use Rattle.join_tables.specs.States.{FreshState}
use Rattle.run_frame.specs.Meaning.{Meaning}
use Rattle.table_runs.specs.Attempts.{IsAgain, IsAttemptIn, release_tried}
use Rattle.table_runs.specs.Openings.{IsInnerIn, Tries}
use Rattle.table_runs.specs.RunKeys.{FrameKey}
use Rattle.table_runs.specs.declared.attempt.Attempt.{Attempt}
use Rattle.table_runs.specs.declared.attempt.InnerBegun.{InnerBegun}
use Rattle.table_runs.specs.declared.attempt.Tried.{Tried}
use Rattle.table_runs.specs.declared.table_run.TakenUp.{TakenUp}

-- It is of the frame's table and wasn't refused, whatever units it has.
pub record IsTakenIn {J V : Type 0} (frame : FrameKey J) (taken : TakenUp V) : Type 0 where
  pub table : taken.turn.table ≡ frame.table
  pub refused : taken.turn.refused ≡ None
  pub again : IsAgain frame.table taken.turn.task taken.turn.cause taken.again

-- an attempt in the first of these frames
abbrev pub IsAttemptAt : {J V : Type 0} → Meaning J V → List (FrameKey J) → Attempt J V → Type 0
IsAttemptAt meaning [] attempt = ⊥
IsAttemptAt meaning (frame ∷ around) attempt = IsAttemptIn meaning frame attempt

-- the release that it is of
abbrev pub TriesRelease : {J V : Type 0} → List (FrameKey J) → Attempt J V → FreshState → Type 0
TriesRelease [] attempt fresh = ⊥
TriesRelease (frame ∷ around) attempt fresh = release_tried frame.table attempt.outcome ≡ fresh

-- what the work of a release comes to in the first of these frames
abbrev pub TriesAt : {J V : Type 0} → Meaning J V → List (FrameKey J) → FreshState → Tried J V → Type 0
TriesAt meaning [] release tried = ⊥
TriesAt meaning (frame ∷ around) release tried = Tries meaning frame release tried

-- the run began in place of the work of a start of the first of these frames
abbrev pub IsInnerAt : {J V : Type 0} → Meaning J V → List (FrameKey J) → InnerBegun J V → Type 0
IsInnerAt meaning [] inner = ⊥
IsInnerAt meaning (frame ∷ around) inner = IsInnerIn meaning frame inner

-- What a release has come to, of which nothing but its Start is in the journal yet.
use Rattle.std.specs.Prelude.{◌≡◌, ℕ, ◌+◌, List, [], ◌∷◌, length, IfSome, Option, Some, None}
use Rattle.atomic_table.specs.Seated.{TableId}
use Rattle.journal_rules.specs.declared.entry.Cause.{Cause}
use Rattle.journal_rules.specs.declared.entry.Cause.TheVariants.{Strong}
use Rattle.journal_rules.specs.declared.entry.Why.{Why}
use Rattle.journal_rules.specs.declared.entry.DropWhy.{DropWhy}
use Rattle.table_steps.specs.Giving.{MayEndGiving}
use Rattle.table_steps.specs.Reasons.{MayTell}
use Rattle.table_steps.specs.ParcelForms.{MayBeBare}
use Rattle.task_graph.specs.NetRows.{NetRows}
use Rattle.join_tables.specs.Claims.{HasClaimed, HasCredited}
use Rattle.join_tables.specs.States.{FreshState, TurnState, RunningState, fresh_state}
use Rattle.run_frame.specs.Meaning.{Meaning}
use Rattle.run_frame.specs.Legal.{IsKept}
use Rattle.run_frame.specs.declared.run.FrameRun.{FrameRun}
use Rattle.table_runs.specs.AllowedFates.{EndAllowed, WhyAllowed, work_with}
use Rattle.table_runs.specs.RunKeys.{FrameKey}
use Rattle.semaphore_turns.specs.Semaphores.{put_by, taken_by}
use Rattle.table_runs.specs.declared.attempt.Attempt.{Attempt}
use Rattle.table_runs.specs.declared.attempt.Ending.{Ending}
use Rattle.table_runs.specs.declared.attempt.Outcome.{Outcome}
use Rattle.table_runs.specs.declared.attempt.Outcome.TheVariants.{Ends, Faults, Drops}

-- the release
abbrev pub release_tried : {V : Type 0} → TableId → Outcome V → FreshState
release_tried n (Ends ending) = fresh_state n ending.running.task ending.running.cause
release_tried n (Faults running why) = fresh_state n running.task running.cause
release_tried n (Drops turn why) = fresh_state n turn.task turn.cause

-- how many edges are to be given
abbrev pub edges_due : {V : Type 0} → Outcome V → ℕ
edges_due (Ends ending) = length ending.gives
edges_due _ = 0

-- the semaphores of which a unit is to be given back, or was put back
abbrev pub units_due : {V : Type 0} → NetRows → Outcome V → List ℕ
units_due net (Ends ending) = put_by net ending.running.task
units_due net (Faults running why) = []
units_due net (Drops turn why) = taken_by net turn.task

abbrev pub count_of : {X : Type 0} → Option X → ℕ
count_of None = 0
count_of (Some x) = 1

-- how many releases can come of it
abbrev pub room_due : {J V : Type 0} → Attempt J V → ℕ
room_due attempt = edges_due attempt.outcome + count_of attempt.again

-- A start may end with this value, which its job allows with these edges and this run in place of the work, if there
-- was one. The value has an owner for each of the edges.
pub record MayEnd {J V : Type 0} (meaning : Meaning J V) (frame : FrameKey J) (run : Option (FrameRun J V)) (ending : Ending V) : Type 0 where
  pub table : ending.running.table ≡ frame.table
  pub credited : HasCredited (meaning.net frame.job) ending.running.task ending.running.units
  pub claimed : HasClaimed (meaning.net frame.job) ending.running.task ending.running.units
  pub fits : MayEndGiving (meaning.net frame.job) ending.running.task ending.gives ending.inner
  pub shares : ending.value.edges ≡ length ending.gives
  pub parcels : MayBeBare (meaning.net frame.job) ending.value.bare
  pub allowed : EndAllowed meaning frame.job (work_with ending.running.task ending.running.ins) ending.value.value ending.gives ending.inner run

-- It may fault for this reason.
pub record MayFault {J V : Type 0} (meaning : Meaning J V) (frame : FrameKey J) (run : Option (FrameRun J V)) (running : RunningState V) (why : Why) : Type 0 where
  pub table : running.table ≡ frame.table
  pub credited : HasCredited (meaning.net frame.job) running.task running.units
  pub tells : MayTell why running.units.refused
  pub allowed : WhyAllowed meaning frame.job (work_with running.task running.ins) why run

-- A release may be dropped for this reason.
pub record MayDrop {J : Type 0} (frame : FrameKey J) (turn : TurnState) (why : DropWhy) : Type 0 where
  pub table : turn.table ≡ frame.table
  pub refused : turn.refused ≡ Some why
  pub held : turn.held ≡ []

abbrev pub IsOutcomeIn : {J V : Type 0} → Meaning J V → FrameKey J → Option (FrameRun J V) → Outcome V → Type 0
IsOutcomeIn meaning frame run (Ends ending) = MayEnd meaning frame run ending
IsOutcomeIn meaning frame run (Faults running why) = MayFault meaning frame run running why
IsOutcomeIn meaning frame run (Drops turn why) = MayDrop frame turn why × (run ≡ None)

abbrev pub again_list : Option FreshState → List FreshState
again_list None = []
again_list (Some again) = again ∷ []

-- another release of the task, if there is one
abbrev pub IsAgain : TableId → ℕ → Cause → Option FreshState → Type 0
IsAgain n t cause None = Unit {0}
IsAgain n t cause (Some again) = (cause ≡ Strong) × (again ≡ fresh_state n t Strong)

-- A release of a frame was taken up, and its work is done where it had to be.
pub record IsAttemptIn {J V : Type 0} (meaning : Meaning J V) (frame : FrameKey J) (attempt : Attempt J V) : Type 0 where
  pub outcome : IsOutcomeIn meaning frame attempt.inner attempt.outcome
  pub kept : IfSome attempt.inner (IsKept meaning)
  pub again : IsAgain frame.table (release_tried frame.table attempt.outcome).task (release_tried frame.table attempt.outcome).cause attempt.again

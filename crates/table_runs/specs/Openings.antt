-- What the work of a release comes to: an attempt, or a run in its place.
use Rattle.std.specs.Prelude.{◌≡◌, ◌≢◌, [], IfSome, Option, length}
use Rattle.atomic_table.specs.Seated.{TableId}
use Rattle.task_graph.specs.NetRows.{NetRows}
use Rattle.join_tables.specs.FirstCauses.{first_fresh}
use Rattle.join_tables.specs.States.{FreshState, fresh_state}
use Rattle.nested_runs.specs.Totals.{all_spans}
use Rattle.run_frame.specs.Meaning.{Meaning}
use Rattle.run_frame.specs.NestedRule.{job_of}
use Rattle.run_frame.specs.declared.run.FrameRun.{FrameRun}
use Rattle.table_runs.specs.Attempts.{IsAgain, IsAttemptIn, release_tried}
use Rattle.table_runs.specs.Begins.{Begins}
use Rattle.table_runs.specs.OpenStarts.{IsStartOf}
use Rattle.table_runs.specs.RunKeys.{FrameKey}
use Rattle.table_runs.specs.declared.attempt.InnerBegun.{InnerBegun}
use Rattle.table_runs.specs.declared.attempt.Tried.{Tried}
use Rattle.table_runs.specs.declared.attempt.Tried.TheVariants.{Done, Inner}

-- no task of a net is released before anything has run
abbrev pub HasNoFirst : NetRows → Type 0
HasNoFirst net = (n : TableId) → first_fresh n net 0 (length net.tasks) ≡ []

-- A run is of a job whose net has no first release. It was over as it began, and has no span.
pub record WasOver {J V : Type 0} (meaning : Meaning J V) (run : FrameRun J V) : Type 0 where
  pub no_first : HasNoFirst (meaning.net (job_of run))
  pub no_spans : all_spans run ≡ 0

-- So was the run that was made in place of the work, if one was.
abbrev pub IsOverAtOnce : {J V : Type 0} → Meaning J V → Option (FrameRun J V) → Type 0
IsOverAtOnce meaning run = IfSome run (WasOver meaning)

-- A run has begun in place of the work of a start of a frame, with the same book of spans. Something is to be done in
-- the run.
pub record IsInnerIn {J V : Type 0} (meaning : Meaning J V) (frame : FrameKey J) (inner : InnerBegun J V) : Type 0 where
  pub frame_is : inner.start.frame ≡ frame
  pub start : IsStartOf meaning inner.begun.run.job inner.start
  pub begins : Begins meaning inner.begun.run.job inner.begun
  pub book : inner.begun.run.book ≡ frame.book
  pub some : inner.begun.fresh.items ≢ []
  pub again : IsAgain frame.table inner.start.running.task inner.start.running.cause inner.again

-- An attempt at work that is done, in which nothing was to be done in the run that was made in its place, if one was.
-- Or a run has begun in its place.
abbrev pub Tries : {J V : Type 0} → Meaning J V → FrameKey J → FreshState → Tried J V → Type 0
Tries meaning frame release (Done attempt) = IsAttemptIn meaning frame attempt × (release_tried frame.table attempt.outcome ≡ release) × IsOverAtOnce meaning attempt.inner
Tries meaning frame release (Inner inner) = IsInnerIn meaning frame inner × (fresh_state frame.table inner.start.running.task inner.start.running.cause ≡ release)

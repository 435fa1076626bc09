-- What the calls of a step say of tables, turns and batches.
use Rattle.std.specs.Prelude.{◌≡◌, List, length, All}
use Rattle.atomic_table.specs.Seated.{TableId}
use Rattle.task_graph.specs.NetRows.{NetRows}
use Rattle.journal_rules.specs.DataRule.{edges_of}
use Rattle.table_steps.specs.Releases.{MayBeReleased}
use Rattle.join_tables.specs.Parts.{parts_in}
use Rattle.semaphore_turns.specs.UnitClaims.{HasToClaim}
use Rattle.join_tables.specs.Rests.{IsOfTable}
use Rattle.join_tables.specs.States.{FreshState, RunningState}
use Rattle.run_frame.specs.Meaning.{Meaning}
use Rattle.table_runs.specs.AllowedFates.{IsAllowed}
use Rattle.table_runs.specs.inside.FateRuns.{AreAllowed}
use Rattle.table_runs.specs.JournalFacts.{IsInJournal}
use Rattle.table_runs.specs.RunKeys.{FrameKey}
use Rattle.table_runs.specs.declared.done_turns.DoneTurn.{DoneTurn}
use Rattle.table_runs.specs.declared.done_turns.DoneTurns.{DoneTurns}

-- these releases are of a table
abbrev pub AreOf : TableId → List FreshState → Type 0
AreOf n fresh = All (λ (f : FreshState). f.table ≡ n) fresh

-- a start whose work may be done, which has claimed no unit yet
pub record MayWork {V : Type 0} (net : NetRows) (r : RunningState V) : Type 0 where
  pub release : MayBeReleased net r.task r.cause
  pub parts : length (parts_in r.ins) ≡ length (edges_of net r.task r.cause)
  pub claims : HasToClaim net r.task r.units

-- a turn of a frame that is done, as its job allows, and whose entries are in one journal that is legal as far as the
-- net decides
pub record IsDone {J V : Type 0} (meaning : Meaning J V) (frame : FrameKey J) (turn : DoneTurn J V) : Type 0 where
  pub table : turn.spent.table ≡ frame.table
  pub allowed : IsAllowed meaning frame.job turn.spent.fate turn.inner
  pub journal : IsInJournal meaning frame.job turn.spent.fate

-- turns of a frame that are done, as its job allows
pub record AreDoneIn {J V : Type 0} (meaning : Meaning J V) (frame : FrameKey J) (done : DoneTurns J V) : Type 0 where
  pub table : IsOfTable frame.table done.batch.table
  pub allowed : AreAllowed meaning frame.job done.batch.fates done.inner.items

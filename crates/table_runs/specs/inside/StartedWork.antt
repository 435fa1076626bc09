-- A start whose work is done, or is to be a run.
use Rattle.std.specs.Prelude.{◌≡◌, Option, None}
use Rattle.atomic_table.specs.Seated.{TableId}
use Rattle.join_tables.specs.States.{FreshState, RunningState, fresh_state}
use Rattle.run_frame.specs.Meaning.{Meaning}
use Rattle.table_runs.specs.Attempts.{IsOutcomeIn, release_tried}
use Rattle.table_runs.specs.OpenStarts.{IsOpenFor, OpenStartView}
use Rattle.table_runs.specs.RunKeys.{FrameKey}
use Rattle.table_runs.specs.declared.run_work.Started.{Started}
use Rattle.table_runs.specs.declared.run_work.Started.TheVariants.{Outcome, Inner as InnerStart}

-- a start of a task of a job, in a run whose spans are in this book
abbrev pub open_start : {J V : Type 0} → J → Option TableId → RunningState V → OpenStartView J V
open_start job book r = record { frame = record { table = r.table; job = job; book = book }; running = r }

-- what a start has come to: its work is done, or is to be a run
abbrev pub Starts : {J V : Type 0} → Meaning J V → FrameKey J → FreshState → Started J V → Type 0
Starts meaning frame release (Outcome outcome) = IsOutcomeIn meaning frame None outcome × (release_tried frame.table outcome ≡ release)
Starts meaning frame release (InnerStart running job) = IsOpenFor meaning frame job running × (fresh_state frame.table running.task running.cause ≡ release)

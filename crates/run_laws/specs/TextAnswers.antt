-- What the tasks of text jobs do, as one answer, and which jobs are those of plans.
use Rattle.std.specs.Prelude.{◌≡◌, ℕ, nat_le, List, length, Option, Some, None, if◌then◌else◌}
use Rattle.std.specs.Option.{option_and_then}
use Rattle.join_words.specs.Ins.{InputValue}
use Rattle.run_frame.specs.declared.job.Done.{Done}
use Rattle.run_frame.specs.declared.job.Done.TheVariants.{Value, Inner as InnerJob}
use Rattle.text_ops.specs.Values.{value_limit}
use Rattle.graph_plans.specs.PlanRows.{IsPlan}
use Rattle.text_tasks.specs.declared.item.Item.{Item}
use Rattle.text_tasks.specs.declared.item.Item.TheVariants.{Text, Cell}
use Rattle.text_tasks.specs.declared.job.TextJob.{TextJob}
use Rattle.text_tasks.specs.declared.job.TextJob.TheVariants.{Graph, Parts, Pipe}
use Rattle.text_tasks.specs.JobMeaning.{task_meaning}
use Rattle.text_tasks.specs.OpMeaning.{OpMeaning, hands_over, moves_on, never_passes, runs, too_wide}

-- what is done by a meaning: a value that isn't too long, or a job in the task's place; else nothing, and the task
-- faults
abbrev pub done_by : OpMeaning → Option (Done TextJob Item)
done_by (hands_over text chosen) = if nat_le (length text) value_limit then Some (Value (Text text) chosen) else None
done_by (moves_on cell chosen) = if nat_le (length cell.text) value_limit then Some (Value (Cell cell) chosen) else None
done_by (runs inner) = Some (InnerJob inner)
done_by (too_wide parts) = None
done_by (never_passes token) = None

-- what a task does on what it finds
abbrev pub text_does : TextJob → ℕ → List (InputValue Item) → Option (Done TextJob Item)
text_does job t found = option_and_then done_by (task_meaning job t found)

-- a text as a value, where it isn't too long
abbrev pub as_value : List ℕ → Option Item
as_value text = if nat_le (length text) value_limit then Some (Text text) else None

-- the job is of the top graph of a plan that keeps the rules of plans
abbrev pub IsPlanned : TextJob → Type 0
IsPlanned (Graph work) = IsPlan work.plan × (work.«module» ≡ None)
IsPlanned (Parts work) = ⊥
IsPlanned (Pipe work) = ⊥

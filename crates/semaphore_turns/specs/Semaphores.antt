-- The semaphores of a task.
use Rattle.std.specs.Prelude.{ℕ, List, [], slice_get}
use Rattle.std.specs.Option.{option_map_or}
use Rattle.task_graph.specs.NetRows.{NetRows}
use Rattle.task_graph.specs.declared.net.TaskRow.{TaskRow}

-- those of which a task takes a unit, by rising number; none of a number that is no task's
abbrev pub taken_by : NetRows → ℕ → List ℕ
taken_by net t = option_map_or (λ (row : TaskRow). row.takes) (slice_get net.tasks t) []

-- those of which it puts a unit
abbrev pub put_by : NetRows → ℕ → List ℕ
put_by net t = option_map_or (λ (row : TaskRow). row.puts) (slice_get net.tasks t) []

-- The rows of a net, as contracts see it.
use Rattle.std.specs.Prelude.{ℕ, List}
use Rattle.task_graph.specs.declared.net.TaskRow.{TaskRow}
use Rattle.task_graph.specs.declared.net.EdgeRow.{EdgeRow}

-- Tasks, edges and semaphores are numbered by their places here. Of a semaphore the list has its maximum.
pub record NetRows : Type 0 where
  pub tasks : List TaskRow
  pub edges : List EdgeRow
  pub sems : List ℕ

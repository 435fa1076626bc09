-- Nets in which nothing can begin.
use Rattle.std.specs.Prelude.{ℕ, ◌<◌, length}
use Rattle.task_graph.specs.NetRows.{NetRows}
use Rattle.task_graph.specs.Net.{IsSource}

-- There are tasks, and each has an in-edge.
pub record HasNoSource (net : NetRows) : Type 0 where
  pub some : 0 < length net.tasks
  pub none : (t : ℕ) → t < length net.tasks → ¬ IsSource net t

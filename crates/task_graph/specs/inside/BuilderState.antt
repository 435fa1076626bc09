-- What a net builder keeps.
use Rattle.std.specs.Prelude.{◌≤◌, length}
use Rattle.task_graph.specs.declared.builder.NetBuilder.TheInside.{Inside}
use Rattle.task_graph.specs.NetRows.{NetRows}
use Rattle.task_graph.specs.Net.{IsNet}
use Rattle.task_graph.specs.NetBuilder.{task_limit, edge_limit, semaphore_limit}
use Rattle.task_graph.specs.inside.EdgeIndex.{HasRoomFor}

-- the rows so far
abbrev pub built_rows : Inside → NetRows
built_rows net = record { tasks = net.tasks; edges = net.edges; sems = net.sems }

-- the rows so far are well formed and within the limits, and there is room for each task's lists
pub record IsBuilding (net : Inside) : Type 0 where
  pub rows : IsNet (built_rows net)
  pub tasks : length net.tasks ≤ task_limit
  pub edges : length net.edges ≤ edge_limit
  pub sems : length net.sems ≤ semaphore_limit
  pub room : HasRoomFor net.index (length net.tasks) (length net.edges)

-- What a net keeps beside its rows.
use Rattle.task_graph.specs.declared.net.Net.TheInside.{Inside}
use Rattle.task_graph.specs.NetRows.{NetRows}
use Rattle.task_graph.specs.Net.{IsNet}
use Rattle.task_graph.specs.inside.EdgeIndex.{IsEdgeIndexOf}

-- the rows
abbrev pub net_rows : Inside → NetRows
net_rows net = record { tasks = net.tasks; edges = net.edges; sems = net.sems }

-- the rows are well formed, and each task's lists are kept
pub record IsIndexed (net : Inside) : Type 0 where
  pub rows : IsNet (net_rows net)
  pub index : IsEdgeIndexOf net.index net.tasks net.edges

-- The edges of graphs, by the numbers of their tasks.
use Rattle.std.specs.Prelude.{ℕ, ◌<◌, false}
use Rattle.task_graph.specs.declared.net.EdgeRow.{EdgeRow}
use Rattle.graph_plans.specs.declared.edges.Edge.{Edge}

-- the edge in a net; it begins without a token
abbrev pub edge_row : Edge → EdgeRow
edge_row edge = record { from = edge.from; to = edge.to; start = false }

-- both ends are among so many tasks
pub record IsAmong (tasks : ℕ) (edge : EdgeRow) : Type 0 where
  pub from : edge.from < tasks
  pub to : edge.to < tasks

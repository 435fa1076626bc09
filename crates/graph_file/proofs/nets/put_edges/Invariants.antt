use Rattle.std.proofs.Common.{◌≡◌, ◌++◌, map, take}
use Rattle.graph_plans.specs.PlanEdges.{edge_row}
use Rattle.graph_file.specs.PlanText.{edge_to}
use Rattle.graph_file.proofs.nets.put_edges.Given as goal

abbrev pub invariant-loop-task : goal.invariant-loop-task
invariant-loop-task l = map edge_row l.edges ≡ map edge_row l.fn.edges ++ map (edge_to l.from) (take l.task-index l.to)

use Rattle.std.proofs.Common.{◌≡◌, map, take}
use Rattle.graph_plans.specs.PlanEdges.{edge_row}
use Rattle.graph_file.specs.PlanText.{edges_from}
use Rattle.graph_file.proofs.nets.edges_of.Given as goal

abbrev pub invariant-loop-from : goal.invariant-loop-from
invariant-loop-from l = map edge_row l.edges ≡ edges_from 0 (take l.from l.tasks)

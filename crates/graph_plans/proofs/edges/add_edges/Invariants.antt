use Rattle.std.proofs.Common.{◌≡◌, ◌++◌, map, take}
use Rattle.graph_plans.specs.PlanEdges.{edge_row}
use Rattle.graph_plans.proofs.edges.add_edges.Given as goal

abbrev pub invariant-loop-edge : goal.invariant-loop-edge
invariant-loop-edge l = l.builder ≡ record l.fn.builder { edges = l.fn.builder.edges ++ map edge_row (take l.edge-index l.edges) }

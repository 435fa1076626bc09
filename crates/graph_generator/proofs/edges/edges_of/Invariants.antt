use Rattle.std.proofs.Common.{◌≡◌, map}
use Rattle.std.specs.List.{flat_map, range_with_len}
use Rattle.graph_plans.specs.PlanEdges.{edge_row}
use Rattle.graph_generator.specs.GeneratedPlan.{layer_edges}
use Rattle.graph_generator.proofs.edges.edges_of.Given as goal

abbrev pub invariant-loop-task : goal.invariant-loop-task
invariant-loop-task l = map edge_row l.edges ≡ flat_map (layer_edges l.layers) (range_with_len 0 l.task)

use Rattle.std.proofs.Common.{◌≡◌, ◌++◌, ◌-◌, map, filter}
use Rattle.std.specs.List.{range_with_len}
use Rattle.graph_plans.specs.PlanEdges.{edge_row}
use Rattle.graph_generator.specs.GeneratedPlan.{edge, edge_draw, leads_to}
use Rattle.graph_generator.proofs.edges.add_edges_behind.Given as goal

abbrev pub invariant-loop-to : goal.invariant-loop-to
invariant-loop-to l =
    map edge_row l.edges ≡ map edge_row l.fn.edges ++ map (edge l.task) (filter (λ next. leads_to l.task next (edge_draw l.layers next)) (range_with_len l.next (l.to - l.next)))

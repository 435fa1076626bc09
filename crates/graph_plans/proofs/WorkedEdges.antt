-- The edges of graphs, computed on small ones.
use Rattle.std.proofs.Common.{◌≡◌, false, refl, arith}
use Rattle.graph_plans.specs.PlanEdges.{IsAmong, edge_row}

edge_of_tasks : edge_row (record { from = 3; to = 13 }) ≡ record { from = 3; to = 13; start = false }
edge_of_tasks = refl

among_tasks : IsAmong 17 (edge_row (record { from = 9; to = 16 }))
among_tasks = record { from = omega arith; to = omega arith }

not_among_tasks : ¬ IsAmong 17 (edge_row (record { from = 9; to = 17 }))
not_among_tasks is = omega (arith, is.to)

not_from_among_tasks : ¬ IsAmong 9 (edge_row (record { from = 9; to = 8 }))
not_from_among_tasks is = omega (arith, is.from)

-- Edges that are added one after another.
use Rattle.std.proofs.Common.{ℕ, ◌<◌, List, length, map, get_or, All, subst}
use Rattle.std.proofs.lemmas.List.{get_or-map, length-map}
use Rattle.graph_plans.specs.declared.edges.Edge.{Edge}
use Rattle.graph_plans.specs.PlanEdges.{IsAmong, edge_row}

-- the edge at a place is among the tasks
pub among-at : (tasks : ℕ) (edges : List Edge) (i : ℕ) (d : Edge) → i < length edges → All (IsAmong tasks) (map edge_row edges) → IsAmong tasks (edge_row (get_or edges i d))
among-at tasks edges i d within all =
    let long : i < length (map edge_row edges) = rw (length-map edges edge_row) within in
    subst (IsAmong tasks) (get_or-map edge_row edges i d (edge_row d) within) (all i (edge_row d) long)

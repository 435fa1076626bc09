-- The net of the uses of modules.
use Rattle.std.specs.Prelude.{ℕ, suc, ◌<◌, false, List, [], ◌∷◌, ◌++◌, length, map, All, Option, Some, None}
use Rattle.task_graph.specs.NetRows.{NetRows}
use Rattle.task_graph.specs.declared.net.EdgeRow.{EdgeRow}
use Rattle.task_graph.specs.declared.net.Shape.TheVariants.{Plain}
use Rattle.task_graph.specs.declared.net.TaskRow.{TaskRow}
use Rattle.pitfall_check.specs.Walks.{IsOnStrongCycle}

-- every use is of a module
abbrev pub AreUses : List (List ℕ) → Type 0
AreUses uses = All (All (λ m. m < length uses)) uses

abbrev pub module_row : TaskRow
module_row = record { shape = Plain; takes = []; puts = [] }

abbrev pub use_edge : ℕ → ℕ → EdgeRow
use_edge m u = record { from = m; to = u; start = false }

-- an edge for each use, of which the first are those of module m
abbrev pub use_edges : ℕ → List (List ℕ) → List EdgeRow
use_edges m [] = []
use_edges m (used ∷ uses) = map (use_edge m) used ++ use_edges (suc m) uses

-- a task for each module, with these edges
abbrev pub use_net : List (List ℕ) → NetRows
use_net uses = record { tasks = map (λ used. module_row) uses; edges = use_edges 0 uses; sems = [] }

-- the least task on a cycle, if any is
abbrev pub IsFirstOnCycle : NetRows → Option ℕ → Type 0
IsFirstOnCycle net None = (t : ℕ) → ¬ IsOnStrongCycle net t
IsFirstOnCycle net (Some m) = IsOnStrongCycle net m × ((t : ℕ) → t < m → ¬ IsOnStrongCycle net t)

-- What an end may give, and where its edges lead.
use Rattle.std.specs.Prelude.{ℕ, ◌+◌, ◌<◌, ◌≤◌, Bool, ◌==◌, IsSomeAnd, List, [], ◌∷◌, length, slice_get, if◌then◌else◌}
use Rattle.std.specs.Option.{option_map_or}
use Rattle.std.specs.List.{AllByRecursion}
use Rattle.task_graph.specs.NetRows.{NetRows}
use Rattle.task_graph.specs.Net.{out_edges}
use Rattle.task_graph.specs.declared.net.EdgeRow.{EdgeRow}
use Rattle.task_graph.specs.declared.net.TaskRow.{TaskRow}
use Rattle.journal_rules.specs.ChoiceRule.{GivesFit, InnerFits}

abbrev pub one_if : Bool → ℕ
one_if b = if b then 1 else 0

-- how often a number is in a list
abbrev pub times : ℕ → List ℕ → ℕ
times e [] = 0
times e (g ∷ gs) = one_if (g == e) + times e gs

abbrev pub target : NetRows → ℕ → ℕ
target net f = option_map_or (λ (row : EdgeRow). row.to) (slice_get net.edges f) 0

-- an End of this task may give these edges
pub record MayEndGiving (net : NetRows) (t : ℕ) (gives : List ℕ) (inner : Bool) : Type 0 where
  pub in_range : AllByRecursion (λ e. e < length net.edges) gives
  pub once : (e : ℕ) → times e gives ≤ 1
  pub fits : IsSomeAnd (slice_get net.tasks t) (λ (row : TaskRow). GivesFit row.shape (out_edges net t) gives × InnerFits row.shape inner)

-- How far a choice of edges has come.
use Rattle.std.specs.Prelude.{◌≡◌, ◌==◌, ℕ, ℤ, ◌<◌, Bool, List, length, slice_index, slice_index_or}
use Rattle.std.specs.List.{list_any}
use Rattle.task_graph.specs.Chosen.{chosen_edges}

-- the edges chosen by these indices, and for each edge whether it is among them
pub record HasChosen (out : List ℕ) (answer : List ℤ) (seen : List Bool) (chosen : List ℕ) : Type 0 where
  pub edges : chosen ≡ chosen_edges out answer
  pub marked : (k : ℕ) (d : Bool) → k < length out → slice_index_or seen k d ≡ list_any (λ e. e == slice_index out k) chosen

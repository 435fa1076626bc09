-- The strongly connected components of the strong edges.
use Rattle.std.specs.Prelude.{◌≡◌, ◌≢◌, ℕ, ◌<◌, ◌≤◌, false, List, length, slice_get, slice_index, Contains, IsSomeAnd}
use Rattle.task_graph.specs.declared.net.EdgeRow.{EdgeRow}
use Rattle.task_graph.specs.NetRows.{NetRows}
use Rattle.task_graph.specs.Net.{is_weak, IsNet}
use Rattle.pitfall_check.specs.inside.Steps.{IsStrongStep}
use Rattle.pitfall_check.specs.inside.SearchRules.{Precedes}

-- Tasks of one component reach each other, and no strong step leads to a lower component.
pub record AreComponents (net : NetRows) (components : List ℕ) : Type 0 where
  pub well_formed : IsNet net
  pub size : length components ≡ length net.tasks
  pub never_falls : (a b : ℕ) → IsStrongStep net a b → slice_index components a ≤ slice_index components b
  pub together : (a b : ℕ) → a < length net.tasks → slice_index components a ≡ slice_index components b → Precedes net a b

-- The same of the tasks that have a component, which is at most this number. The others are still left.
pub record AreComponentsUpTo (net : NetRows) (components : List ℕ) (component : ℕ) (left : List ℕ) : Type 0 where
  pub well_formed : IsNet net
  pub size : length components ≡ length net.tasks
  pub at_most : (t : ℕ) → slice_index components t ≤ component
  pub before : (a b : ℕ) → IsStrongStep net a b → slice_index components b ≢ 0 → slice_index components a ≢ 0
  pub never_falls : (a b : ℕ) → IsStrongStep net a b → slice_index components b ≢ 0 → slice_index components a ≤ slice_index components b
  pub together : (a b : ℕ) → slice_index components a ≢ 0 → slice_index components a ≡ slice_index components b → Precedes net a b
  pub waiting : (t : ℕ) → t < length net.tasks → slice_index components t ≡ 0 → Contains left t

-- an edge is strong, and leads to a task of the component of task t
pub record StaysInComponent (net : NetRows) (components : List ℕ) (t e : ℕ) : Type 0 where
  pub strong : is_weak net e ≡ false
  pub same : IsSomeAnd (slice_get net.edges e) (λ (row : EdgeRow). slice_index components row.to ≡ slice_index components t)

-- Walks in a net.
use Rattle.std.specs.Prelude.{◌≡◌, ◌≢◌, ℕ, ◌<◌, false, List, [], ◌∷◌, length, slice_get, All, IsSomeAnd}
use Rattle.task_graph.specs.declared.net.EdgeRow.{EdgeRow}
use Rattle.task_graph.specs.NetRows.{NetRows}
use Rattle.task_graph.specs.Net.{is_weak, IsSource}

-- These edges, in order, lead from task a to task b: each leaves the task that the one before leads to. Without
-- an edge a walk stays where it is.
abbrev pub IsWalk : NetRows → ℕ → List ℕ → ℕ → Type 0
IsWalk net a [] b = a ≡ b
IsWalk net a (e ∷ es) b = IsSomeAnd (slice_get net.edges e) (λ (row : EdgeRow). (row.from ≡ a) × IsWalk net row.to es b)

-- Some walk leads from a source to a task; a source reaches itself.
pub record IsReachable (net : NetRows) (t : ℕ) : Type 0 where
  pub source : ℕ
  pub in_range : source < length net.tasks
  pub is_source : IsSource net source
  pub edges : List ℕ
  pub walk : IsWalk net source edges t

-- A walk of strong edges, one at least, leads from a task to itself.
pub record IsOnStrongCycle (net : NetRows) (t : ℕ) : Type 0 where
  pub edges : List ℕ
  pub some : edges ≢ []
  pub strong : All (λ e. is_weak net e ≡ false) edges
  pub closed : IsWalk net t edges t

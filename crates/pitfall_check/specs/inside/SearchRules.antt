-- A depth-first search along strong edges.
use Rattle.std.specs.Prelude.{◌≡◌, ◌≢◌, ◌⊎◌, ℕ, ◌+◌, ◌<◌, ◌≤◌, Bool, true, false, not, ◌&&◌, List, [], ◌∷◌, length, reverse, slice_get, slice_index, slice_index_or, count_by, All, AllPairs, Contains}
use Rattle.std.specs.Option.{option_map_or}
use Rattle.task_graph.specs.declared.net.EdgeRow.{EdgeRow}
use Rattle.task_graph.specs.NetRows.{NetRows}
use Rattle.task_graph.specs.Net.{is_weak, out_edges, IsNet}
use Rattle.pitfall_check.specs.declared.progress.Progress.{Progress}
use Rattle.pitfall_check.specs.declared.progress.Progress.TheVariants.{Unseen, Open, Done}
use Rattle.pitfall_check.specs.inside.Steps.{IsStrongStep, Reach}

-- how far the search is with a task
abbrev pub progress_of : List Progress → ℕ → Progress
progress_of states t = slice_index_or states t Unseen

abbrev pub is_unseen : Progress → Bool
is_unseen Unseen = true
is_unseen Open = false
is_unseen Done = false

-- whether an edge is strong and leads to a task that wasn't seen
abbrev pub leads_to_unseen : NetRows → List Progress → ℕ → Bool
leads_to_unseen net states e = not (is_weak net e) && option_map_or (λ (row : EdgeRow). is_unseen (progress_of states row.to)) (slice_get net.edges e) false

-- none of the first n edges out of a task leads on
abbrev pub NoneLeadsToUnseen : NetRows → List Progress → ℕ → ℕ → Type 0
NoneLeadsToUnseen net states t n = (k : ℕ) → k < n → k < length (out_edges net t) → leads_to_unseen net states (slice_index (out_edges net t) k) ≡ false

-- strong steps lead from a to b
abbrev pub Precedes : NetRows → ℕ → ℕ → Type 0
Precedes net a b = Reach (IsStrongStep net) a b

-- Tasks by the order in which a search finished them, the last one first: none is there twice, and where a strong
-- step leads out of a task and those finished before it, it leads to one from which the task is reached.
abbrev pub IsFinishOrder : NetRows → List ℕ → Type 0
IsFinishOrder net [] = Unit {0}
IsFinishOrder net (t ∷ before) =
    IsFinishOrder net before × (¬ Contains before t) × ((a b : ℕ) → Contains (t ∷ before) a → IsStrongStep net a b → Contains (t ∷ before) b ⊎ Precedes net b t)

-- What a search keeps: its path is the open tasks, each of which leads to the later ones; the finished tasks are in
-- the order in which they were finished; and no edge before a task's cursor leads on.
pub record IsSearch (net : NetRows) (states : List Progress) (cursors path order : List ℕ) : Type 0 where
  pub well_formed : IsNet net
  pub states_size : length states ≡ length net.tasks
  pub cursors_size : length cursors ≡ length net.tasks
  pub path_in_range : All (λ t. t < length net.tasks) path
  pub path_open : All (λ t. progress_of states t ≡ Open) path
  pub open_on_path : (t : ℕ) → progress_of states t ≡ Open → Contains path t
  pub path_leads : AllPairs (λ a b. (a ≢ b) × Precedes net a b) path
  pub passed : (t : ℕ) → NoneLeadsToUnseen net states t (slice_index cursors t)
  pub order_in_range : All (λ t. t < length net.tasks) order
  pub order_done : All (λ t. progress_of states t ≡ Done) order
  pub done_in_order : (t : ℕ) → progress_of states t ≡ Done → Contains order t
  pub done_passed : (t : ℕ) → progress_of states t ≡ Done → NoneLeadsToUnseen net states t (length (out_edges net t))
  pub finished : IsFinishOrder net (reverse order)
  pub count : count_by is_unseen states + length path + length order ≡ length net.tasks

-- the edge at a place leads on, and none before it
pub record FindsNext (net : NetRows) (states : List Progress) (t place : ℕ) : Type 0 where
  pub below : place < length (out_edges net t)
  pub leads : leads_to_unseen net states (slice_index (out_edges net t) place) ≡ true
  pub first : NoneLeadsToUnseen net states t place

-- what was seen stays so
abbrev pub OnlySeesMore : List Progress → List Progress → Type 0
OnlySeesMore old new = (t : ℕ) → is_unseen (progress_of old t) ≡ false → is_unseen (progress_of new t) ≡ false

-- all tasks, by the order in which a search finished them, the first one first
pub record IsFullOrder (net : NetRows) (order : List ℕ) : Type 0 where
  pub finished : IsFinishOrder net (reverse order)
  pub all : (t : ℕ) → t < length net.tasks → Contains order t
  pub in_range : All (λ t. t < length net.tasks) order
  pub size : length order ≤ length net.tasks

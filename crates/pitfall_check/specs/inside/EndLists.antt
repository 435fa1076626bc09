-- The tasks at the ends of edges, in lists of one task each.
use Rattle.std.specs.Prelude.{◌≡◌, ℕ, ◌+◌, ◌<◌, ◌≤◌, List, ◌++◌, length, slice_index, slice_range}
use Rattle.task_graph.specs.NetRows.{NetRows}
use Rattle.pitfall_check.specs.declared.way.Way.{Way}
use Rattle.pitfall_check.specs.declared.ends_by_task.EndsByTask.{EndsByTask}
use Rattle.pitfall_check.specs.inside.Steps.{AreEnds, edges_by}

-- the ends of a task's edges, by the order of the edges
abbrev pub AreEndsOf : Way → NetRows → ℕ → List ℕ → Type 0
AreEndsOf way net t ends = AreEnds way net (edges_by way net t) ends (length (edges_by way net t))

-- the ends of the first n of these edges were put at the end of a list
pub record AddsEnds (way : Way) (net : NetRows) (edges : List ℕ) (n : ℕ) (old new : List ℕ) : Type 0 where
  pub more : List ℕ
  pub longer : new ≡ old ++ more
  pub ends : AreEnds way net edges more n

-- those of all edges of a task were
abbrev pub AddsEndsOf : Way → NetRows → ℕ → List ℕ → List ℕ → Type 0
AddsEndsOf way net t old new = AddsEnds way net (edges_by way net t) (length (edges_by way net t)) old new

-- the list of task t, which lies between two neighbouring bounds
abbrev pub ends_of : EndsByTask → ℕ → List ℕ
ends_of lists t = slice_range lists.ends.items (slice_index lists.bounds.items t) (slice_index lists.bounds.items (t + 1))

-- there is a list of task t
pub record IsListed (lists : EndsByTask) (t : ℕ) : Type 0 where
  pub bounded : t + 1 < length lists.bounds.items
  pub rising : slice_index lists.bounds.items t ≤ slice_index lists.bounds.items (t + 1)
  pub within : slice_index lists.bounds.items (t + 1) ≤ length lists.ends.items

-- the lists of the first n tasks have the ends of their edges
pub record AreListedBelow (way : Way) (net : NetRows) (lists : EndsByTask) (n : ℕ) : Type 0 where
  pub size : length lists.bounds.items ≡ n + 1
  pub last : slice_index lists.bounds.items n ≡ length lists.ends.items
  pub there : (t : ℕ) → t < n → IsListed lists t
  pub ends : (t : ℕ) → t < n → AreEndsOf way net t (ends_of lists t)

-- the lists of all tasks do
abbrev pub AreListed : Way → NetRows → EndsByTask → Type 0
AreListed way net lists = AreListedBelow way net lists (length net.tasks)

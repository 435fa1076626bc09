-- What a net's rows mean: weak and strong edges, the edges of a task, and which rows are well formed.
use Rattle.std.specs.Prelude.{◌≡◌, ℕ, ◌<◌, ◌≤◌, ◌^◌, Bool, true, false, not, ◌&&◌, ◌==◌, List, [], length, slice_get, IsTrue, All}
use Rattle.std.specs.Option.{option_map_or}
use Rattle.std.specs.List.Sorted.{IsStrictlyIncreasing}
use Rattle.task_graph.specs.declared.net.Shape.{Shape}
use Rattle.task_graph.specs.declared.net.Shape.TheVariants.{Plain, Choice, Many, Nested}
use Rattle.task_graph.specs.declared.net.TaskRow.{TaskRow}
use Rattle.task_graph.specs.declared.net.EdgeRow.{EdgeRow}
use Rattle.task_graph.specs.NetRows.{NetRows}
use Rattle.task_graph.specs.Places.{places}

-- whether tasks of this shape choose among their successors
abbrev pub chooses : Shape → Bool
chooses Plain = false
chooses Choice = true
chooses Many = true
chooses Nested = false

-- whether a task chooses among its successors; a number that is no task's doesn't
abbrev pub task_chooses : NetRows → ℕ → Bool
task_chooses net t = option_map_or (λ row. chooses row.shape) (slice_get net.tasks t) false

-- An edge is weak where its source chooses among its successors, else strong.
abbrev pub is_weak_row : NetRows → EdgeRow → Bool
is_weak_row net row = task_chooses net row.from

abbrev pub is_weak : NetRows → ℕ → Bool
is_weak net e = option_map_or (is_weak_row net) (slice_get net.edges e) false

-- the edges out of a task, by rising number
abbrev pub out_edges : NetRows → ℕ → List ℕ
out_edges net t = places (λ row. row.from == t) net.edges

-- the edges into a task, by rising number
abbrev pub in_edges : NetRows → ℕ → List ℕ
in_edges net t = places (λ row. row.to == t) net.edges

-- of these, the strong ones
abbrev pub strong_in : NetRows → ℕ → List ℕ
strong_in net t = places (λ row. (row.to == t) && not (is_weak_row net row)) net.edges

-- and the weak ones
abbrev pub weak_in : NetRows → ℕ → List ℕ
weak_in net t = places (λ row. (row.to == t) && is_weak_row net row) net.edges

-- A source task has no in-edge.
abbrev pub IsSource : NetRows → ℕ → Type 0
IsSource net t = in_edges net t ≡ []

-- both ends of an edge are tasks, and it begins with a token only where it is strong
pub record IsEdgeOf (net : NetRows) (row : EdgeRow) : Type 0 where
  pub from_in_range : row.from < length net.tasks
  pub to_in_range : row.to < length net.tasks
  pub starts_strong : IsTrue row.start → is_weak_row net row ≡ false

-- a rising list of semaphores
pub record AreSemaphoresOf (net : NetRows) (ids : List ℕ) : Type 0 where
  pub rising : IsStrictlyIncreasing ids
  pub in_range : All (λ s. s < length net.sems) ids

-- what a task takes and puts are rising lists of semaphores
pub record IsTaskOf (net : NetRows) (row : TaskRow) : Type 0 where
  pub takes : AreSemaphoresOf net row.takes
  pub puts : AreSemaphoresOf net row.puts

-- the rows of a net are well formed
pub record IsNet (net : NetRows) : Type 0 where
  pub tasks : All (IsTaskOf net) net.tasks
  pub edges : All (IsEdgeOf net) net.edges
  pub sems : All (λ max. 1 ≤ max) net.sems
  pub task_count : length net.tasks < 2 ^ 32
  pub edge_count : length net.edges < 2 ^ 32
  pub sem_count : length net.sems < 2 ^ 32

-- a task that neither chooses nor has an inner graph, and needs no semaphore
pub record IsPlainTask (row : TaskRow) : Type 0 where
  pub shape : row.shape ≡ Plain
  pub takes : row.takes ≡ []
  pub puts : row.puts ≡ []

-- a net of such tasks, in which no edge begins with a token
pub record IsPlainNet (net : NetRows) : Type 0 where
  pub tasks : All IsPlainTask net.tasks
  pub edges : All (λ (row : EdgeRow). row.start ≡ false) net.edges

-- What the calls of a net builder add, and what they refuse.
use Rattle.std.specs.Prelude.{◌≡◌, ℕ, ◌<◌, ◌≤◌, ◌==◌, nat_lt, nat_le, true, List, [], ◌∷◌, ◌++◌, length, count_by, filter, find, Option, Some, None, Result, Ok, Err, IsTrue}
use Rattle.std.specs.List.{list_any, range_with_len}
use Rattle.std.specs.Option.{option_or}
use Rattle.task_graph.specs.declared.net.TaskRow.{TaskRow}
use Rattle.task_graph.specs.declared.net.EdgeRow.{EdgeRow}
use Rattle.task_graph.specs.declared.builder.BuildError.{BuildError}
use Rattle.task_graph.specs.declared.builder.BuildError.TheVariants.{NoSuchTask, NoSuchSemaphore, ZeroCount, Repeated, WeakStart, TooMany, NoMemory}
use Rattle.task_graph.specs.NetRows.{NetRows}
use Rattle.task_graph.specs.Net.{IsEdgeOf, is_weak_row}

-- how many tasks a net may have
abbrev pub task_limit : ℕ
task_limit = 4000000

-- how many edges
abbrev pub edge_limit : ℕ
edge_limit = 8000000

-- how many semaphores
abbrev pub semaphore_limit : ℕ
semaphore_limit = 256

-- the net without tasks, edges and semaphores
abbrev pub empty_net : NetRows
empty_net = record { tasks = []; edges = []; sems = [] }

-- the net with one task more, at the end
abbrev pub with_task : NetRows → TaskRow → NetRows
with_task net row = record { tasks = net.tasks ++ row ∷ []; edges = net.edges; sems = net.sems }

-- the net with one edge more, at the end
abbrev pub with_edge : NetRows → EdgeRow → NetRows
with_edge net row = record { tasks = net.tasks; edges = net.edges ++ row ∷ []; sems = net.sems }

-- the net with one semaphore more, at the end
abbrev pub with_semaphore : NetRows → ℕ → NetRows
with_semaphore net max = record { tasks = net.tasks; edges = net.edges; sems = net.sems ++ max ∷ [] }

-- a semaphore was added and bears this number
pub record AddsSemaphore (old : NetRows) (max id : ℕ) (new : NetRows) : Type 0 where
  pub positive : 1 ≤ max
  pub room : length old.sems < semaphore_limit
  pub number : id ≡ length old.sems
  pub rows : new ≡ with_semaphore old max

-- Why a semaphore is refused. No two of these hold at once, so each but `NoMemory` is returned exactly where it
-- holds. The reasons that are `⊥` are never returned.
abbrev pub RefusesSemaphore : NetRows → ℕ → BuildError → Type 0
RefusesSemaphore net max (NoSuchTask id) = ⊥
RefusesSemaphore net max (NoSuchSemaphore id) = ⊥
RefusesSemaphore net max ZeroCount = max ≡ 0
RefusesSemaphore net max (Repeated id) = ⊥
RefusesSemaphore net max WeakStart = ⊥
RefusesSemaphore net max (TooMany count) = (1 ≤ max) × (count ≡ semaphore_limit) × (length net.sems ≡ semaphore_limit)
RefusesSemaphore net max NoMemory = (1 ≤ max) × (length net.sems < semaphore_limit)

-- what `semaphore` returns, and the net after it
abbrev pub SemaphoreAnswer : NetRows → ℕ → Result ℕ BuildError → NetRows → Type 0
SemaphoreAnswer old max (Ok id) new = AddsSemaphore old max id new
SemaphoreAnswer old max (Err error) new = RefusesSemaphore old max error × (new ≡ old)

-- the semaphores below a number that a list names, by rising number
abbrev pub rising : ℕ → List ℕ → List ℕ
rising count ids = filter (λ s. list_any (λ id. id == s) ids) (range_with_len 0 count)

-- a task's row as the net keeps it
abbrev pub settled : NetRows → TaskRow → TaskRow
settled net row = record { shape = row.shape; takes = rising (length net.sems) row.takes; puts = rising (length net.sems) row.puts }

-- the first number of a list that isn't below the number of semaphores
abbrev pub first_unknown : ℕ → List ℕ → Option ℕ
first_unknown count ids = find (λ id. nat_le count id) ids

-- the least semaphore that a list names twice
abbrev pub least_repeated : ℕ → List ℕ → Option ℕ
least_repeated count ids = find (λ s. nat_lt 1 (count_by (λ id. id == s) ids)) (range_with_len 0 count)

-- of what a task takes and puts: the first number that no semaphore has, and the least that is named twice.
-- What it takes comes before what it puts.
abbrev pub unknown_semaphore : NetRows → List ℕ → List ℕ → Option ℕ
unknown_semaphore net takes puts = option_or (first_unknown (length net.sems) takes) (first_unknown (length net.sems) puts)

abbrev pub repeated_semaphore : NetRows → List ℕ → List ℕ → Option ℕ
repeated_semaphore net takes puts = option_or (least_repeated (length net.sems) takes) (least_repeated (length net.sems) puts)

-- both lists name semaphores of the net, and none twice
pub record FitLists (net : NetRows) (takes puts : List ℕ) : Type 0 where
  pub known : unknown_semaphore net takes puts ≡ None
  pub once : repeated_semaphore net takes puts ≡ None

-- why they don't
abbrev pub RefusesLists : NetRows → List ℕ → List ℕ → BuildError → Type 0
RefusesLists net takes puts (NoSuchTask id) = ⊥
RefusesLists net takes puts (NoSuchSemaphore id) = unknown_semaphore net takes puts ≡ Some id
RefusesLists net takes puts ZeroCount = ⊥
RefusesLists net takes puts (Repeated id) = (unknown_semaphore net takes puts ≡ None) × (repeated_semaphore net takes puts ≡ Some id)
RefusesLists net takes puts WeakStart = ⊥
RefusesLists net takes puts (TooMany count) = ⊥
RefusesLists net takes puts NoMemory = ⊥

-- a task was added and bears this number
pub record AddsTask (old : NetRows) (row : TaskRow) (id : ℕ) (new : NetRows) : Type 0 where
  pub fits : FitLists old row.takes row.puts
  pub room : length old.tasks < task_limit
  pub number : id ≡ length old.tasks
  pub rows : new ≡ with_task old (settled old row)

-- An edge was added and bears this number. The net could take it.
pub record AddsEdge (old : NetRows) (row : EdgeRow) (id : ℕ) (new : NetRows) : Type 0 where
  pub fits : IsEdgeOf old row
  pub room : length old.edges < edge_limit
  pub number : id ≡ length old.edges
  pub rows : new ≡ with_edge old row

-- the first of an edge's ends that is no task; `from` comes before `to`
pub record IsFirstUnknown (net : NetRows) (row : EdgeRow) (id : ℕ) : Type 0 where
  pub unknown : length net.tasks ≤ id
  pub from_first : length net.tasks ≤ row.from → id ≡ row.from
  pub then_to : row.from < length net.tasks → id ≡ row.to

-- both ends are tasks, and the edge asks for a token at the beginning though it would be weak
pub record StartsWeak (net : NetRows) (row : EdgeRow) : Type 0 where
  pub from_in_range : row.from < length net.tasks
  pub to_in_range : row.to < length net.tasks
  pub start : IsTrue row.start
  pub weak : is_weak_row net row ≡ true

-- Why a task is refused. No two of these hold of one task, so each but `NoMemory` is returned exactly where it
-- holds. The reasons that are `⊥` are never returned.
abbrev pub RefusesTask : NetRows → TaskRow → BuildError → Type 0
RefusesTask net row (NoSuchTask id) = ⊥
RefusesTask net row (NoSuchSemaphore id) = RefusesLists net row.takes row.puts (NoSuchSemaphore id)
RefusesTask net row ZeroCount = ⊥
RefusesTask net row (Repeated id) = RefusesLists net row.takes row.puts (Repeated id)
RefusesTask net row WeakStart = ⊥
RefusesTask net row (TooMany count) = FitLists net row.takes row.puts × (count ≡ task_limit) × (length net.tasks ≡ task_limit)
RefusesTask net row NoMemory = FitLists net row.takes row.puts × (length net.tasks < task_limit)

-- what `task` returns, and the net after it
abbrev pub TaskAnswer : NetRows → TaskRow → Result ℕ BuildError → NetRows → Type 0
TaskAnswer old row (Ok id) new = AddsTask old row id new
TaskAnswer old row (Err error) new = RefusesTask old row error × (new ≡ old)

-- why an edge doesn't fit the net
abbrev pub RefusesEnds : NetRows → EdgeRow → BuildError → Type 0
RefusesEnds net row (NoSuchTask id) = IsFirstUnknown net row id
RefusesEnds net row (NoSuchSemaphore id) = ⊥
RefusesEnds net row ZeroCount = ⊥
RefusesEnds net row (Repeated id) = ⊥
RefusesEnds net row WeakStart = StartsWeak net row
RefusesEnds net row (TooMany count) = ⊥
RefusesEnds net row NoMemory = ⊥

-- Why an edge is refused. No two of these hold of one edge, so each but `NoMemory` is returned exactly where it
-- holds. The reasons that are `⊥` are never returned.
abbrev pub RefusesEdge : NetRows → EdgeRow → BuildError → Type 0
RefusesEdge net row (NoSuchTask id) = RefusesEnds net row (NoSuchTask id)
RefusesEdge net row (NoSuchSemaphore id) = ⊥
RefusesEdge net row ZeroCount = ⊥
RefusesEdge net row (Repeated id) = ⊥
RefusesEdge net row WeakStart = RefusesEnds net row WeakStart
RefusesEdge net row (TooMany count) = IsEdgeOf net row × (count ≡ edge_limit) × (length net.edges ≡ edge_limit)
RefusesEdge net row NoMemory = IsEdgeOf net row × (length net.edges < edge_limit)

-- what `edge` returns, and the net after it
abbrev pub EdgeAnswer : NetRows → EdgeRow → Result ℕ BuildError → NetRows → Type 0
EdgeAnswer old row (Ok id) new = AddsEdge old row id new
EdgeAnswer old row (Err error) new = RefusesEdge old row error × (new ≡ old)

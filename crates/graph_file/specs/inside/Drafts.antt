-- What holds of the semaphores and tasks of each file, and what the code has of a net in the making.
use Rattle.std.specs.Prelude.{◌≡◌, ◌≢◌, ℕ, ◌<◌, ◌≤◌, List, [], ◌∷◌, length, All, AllPairs, Ok, ⊤}
use Rattle.task_graph.specs.NetRows.{NetRows}
use Rattle.task_graph.specs.declared.net.EdgeRow.{EdgeRow}
use Rattle.graph_plans.specs.declared.ops.Op.{Op}
use Rattle.graph_plans.specs.Operations.{IsOp}
use Rattle.graph_plans.specs.PlanRows.{IsTextName, file_edge_limit, file_semaphore_limit, file_task_limit, maximum_limit}
use Rattle.graph_file.specs.declared.numbers.TaskNumbers.{TaskNumbers}
use Rattle.graph_drafts.specs.OpRows.{FileOpRow, reads, runs, does}
use Rattle.graph_drafts.specs.FileText.{DraftRows, FileRows, TaskText}
use Rattle.graph_file.specs.PlanText.{FileNumbers, edge_total, graph_names, graph_numbers, names_of_modules, task_names, task_rows}

-- a maximum that a semaphore may have
pub record IsMaximum (max : ℕ) : Type 0 where
  pub least : 1 ≤ max
  pub most : max ≤ maximum_limit

-- the operation of a task as it may stand in a file: its own words and numbers are within their limits
abbrev pub IsFileOp : FileOpRow → Type 0
IsFileOp (reads text) = IsTextName text
IsFileOp (runs name) = ⊤
IsFileOp (does op) = IsOp 0 0 op

-- the graph of a draft, whatever its tasks name
pub record IsDraft (draft : DraftRows) : Type 0 where
  pub sem_count : length draft.sems ≡ length draft.sem_names
  pub sems : All IsMaximum draft.sems
  pub ops : All (λ (task : TaskText). IsFileOp task.op) draft.tasks

-- the graphs of a file, whatever their tasks name
pub record IsFile (file : FileRows) : Type 0 where
  pub no_name : file.top.name ≡ []
  pub top : IsDraft file.top
  pub modules : All IsDraft file.modules

-- a graph of a file, whose tasks name what has these numbers, that keeps the rules
pub record IsReady (modules : List (List ℕ)) (draft : DraftRows) (numbers : List TaskNumbers) : Type 0 where
  pub is_draft : IsDraft draft
  pub numbered : graph_numbers modules draft ≡ Ok numbers
  pub named : graph_names draft ≡ Ok (task_names draft)
  pub tasks : length draft.tasks ≤ file_task_limit
  pub edges : edge_total numbers ≤ file_edge_limit
  pub sems : length draft.sems ≤ file_semaphore_limit

-- graphs of a file that do, each with its numbers
abbrev pub AreReady : List (List ℕ) → List DraftRows → List (List TaskNumbers) → Type 0
AreReady modules [] [] = ⊤
AreReady modules [] (n ∷ numbers) = ⊥
AreReady modules (draft ∷ drafts) [] = ⊥
AreReady modules (draft ∷ drafts) (n ∷ numbers) = IsReady modules draft n × AreReady modules drafts numbers

-- the graphs of a file that does
pub record IsReadyFile (file : FileRows) (numbers : FileNumbers) : Type 0 where
  pub top : IsReady (names_of_modules file) file.top numbers.top
  pub modules : AreReady (names_of_modules file) file.modules numbers.modules

-- a list of semaphores, of which there are so many, that has none twice
pub record AreIds (sems : ℕ) (ids : List ℕ) : Type 0 where
  pub in_range : All (λ s. s < sems) ids
  pub differ : AllPairs (λ a b. a ≢ b) ids

-- both lists of a task are such
pub record NamesOnce (sems : ℕ) (task : TaskNumbers) : Type 0 where
  pub takes : AreIds sems task.takes
  pub puts : AreIds sems task.puts

-- the net of semaphores with these maxima
abbrev pub with_sems : List ℕ → NetRows
with_sems sems = record { tasks = []; edges = []; sems = sems }

-- the net of these semaphores, of tasks with these operations and numbers, and of these edges
abbrev pub net_with : List ℕ → List Op → List TaskNumbers → List EdgeRow → NetRows
net_with sems ops tasks edges = record { tasks = task_rows (length sems) ops tasks; edges = edges; sems = sems }

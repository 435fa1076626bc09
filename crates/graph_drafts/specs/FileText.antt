-- The graphs of a file as it has them, one field after another, and else the first refusal.
use Rattle.std.specs.Prelude.{ℕ, List, [], ◌∷◌, ◌++◌, length, ◌==◌, Result, Ok, if◌then◌else◌, codes}
use Rattle.serde_json.specs.Data.{Data}
use Rattle.graph_plans.specs.declared.spots.Spot.TheVariants.{File}
use Rattle.graph_plans.specs.PlanRows.{maximum_limit}
use Rattle.graph_drafts.specs.declared.refusals.GraphError.{GraphError}
use Rattle.graph_drafts.specs.declared.scopes.Scope.{Scope}
use Rattle.graph_drafts.specs.declared.scopes.Scope.TheVariants.{Top, Module as OfModule}
use Rattle.graph_drafts.specs.Contents.{name_of, name_list_of, objects_of, whole_of}
use Rattle.graph_drafts.specs.Fields.{allowed, graph_spot, needed, only, sem_spot, task_spot}
use Rattle.graph_drafts.specs.OpRows.{FileOpRow, op_in, op_rows}
use Rattle.graph_drafts.specs.Steps.{◌>>=◌, walk}

-- a task's name, and the names that it has of others: `to` are the tasks to which its edges lead, the last two
-- semaphores
pub record TaskNames : Type 0 where
  pub name : List ℕ
  pub to : List (List ℕ)
  pub takes : List (List ℕ)
  pub puts : List (List ℕ)

-- a task as a file has it
pub record TaskText : Type 0 where
  pub names : TaskNames
  pub op : FileOpRow

-- A graph of a file of this version: its name, which the top graph doesn't have, its semaphores' names and maxima, and
-- its tasks in file order.
pub record DraftRows : Type 0 where
  pub scope : Scope
  pub version : ℕ
  pub name : List ℕ
  pub sem_names : List (List ℕ)
  pub sems : List ℕ
  pub tasks : List TaskText

-- the graphs of a file
pub record FileRows : Type 0 where
  pub top : DraftRows
  pub modules : List DraftRows

abbrev pub empty_draft : Scope → ℕ → List ℕ → DraftRows
empty_draft scope version name = record { scope = scope; version = version; name = name; sem_names = []; sems = []; tasks = [] }

-- one semaphore more
abbrev pub with_semaphore : DraftRows → List ℕ → ℕ → DraftRows
with_semaphore draft name max = record draft { sem_names = draft.sem_names ++ name ∷ []; sems = draft.sems ++ max ∷ [] }

-- an object more as a semaphore, by the order of its fields
abbrev pub add_semaphore : DraftRows → Data → Result DraftRows GraphError
add_semaphore draft d = let spot = sem_spot draft.scope (length draft.sem_names) in do
  name ← needed name_of spot (codes "name") d
  max ← needed (whole_of 1 maximum_limit) spot (codes "max") d
  done ← only (codes "name" ∷ codes "max" ∷ []) spot d
  Ok (with_semaphore draft name max)

-- one task more
abbrev pub with_task_text : DraftRows → TaskText → DraftRows
with_task_text draft task = record draft { tasks = draft.tasks ++ task ∷ [] }

-- the field with the semaphores that a task takes
abbrev pub takes_field : ℕ → List ℕ
takes_field version = if version == 1 then codes "holds" else codes "acquire"

-- the field with those that it puts, in version 1 the same one
abbrev pub puts_field : ℕ → List ℕ
puts_field version = if version == 1 then codes "holds" else codes "release"

-- the fields of every task
abbrev pub task_fields : ℕ → List (List ℕ)
task_fields version = codes "name" ∷ codes "op" ∷ codes "to" ∷ takes_field version ∷ puts_field version ∷ []

-- an object more as a task, by the order of its fields
abbrev pub add_task : DraftRows → Data → Result DraftRows GraphError
add_task draft d = let spot = task_spot draft.scope (length draft.tasks) in do
  name ← needed name_of spot (codes "name") d
  found ← op_in op_rows spot d
  to ← allowed [] name_list_of spot (codes "to") d
  takes ← allowed [] name_list_of spot (takes_field draft.version) d
  puts ← allowed [] name_list_of spot (puts_field draft.version) d
  done ← only (task_fields draft.version ++ found.fields) spot d
  Ok (with_task_text draft (record { names = record { name = name; to = to; takes = takes; puts = puts }; op = found.op }))

-- the graph of a draft, with these semaphores and tasks
abbrev pub graph_in : DraftRows → List Data → List Data → Result DraftRows GraphError
graph_in draft sems tasks = do
  start ← walk add_semaphore draft sems
  walk add_task start tasks

-- the module that an object is, by the order of its fields
abbrev pub module_in : Scope → ℕ → Data → Result DraftRows GraphError
module_in scope version d = let spot = graph_spot scope in do
  name ← needed name_of spot (codes "name") d
  tasks ← needed objects_of spot (codes "tasks") d
  sems ← allowed [] objects_of spot (codes "semaphores") d
  done ← only (codes "name" ∷ codes "tasks" ∷ codes "semaphores" ∷ []) spot d
  graph_in (empty_draft scope version name) sems tasks

-- an object more as a module
abbrev pub add_module : ℕ → List DraftRows → Data → Result (List DraftRows) GraphError
add_module version before d = do
  graph ← module_in (OfModule (length before)) version d
  Ok (before ++ graph ∷ [])

-- the fields of a file
abbrev pub file_fields : List (List ℕ)
file_fields = codes "version" ∷ codes "tasks" ∷ codes "semaphores" ∷ codes "modules" ∷ []

-- the graphs of a file: its own fields first, then those of its semaphores, tasks and modules
abbrev pub file_in : Data → Result FileRows GraphError
file_in d = do
  version ← allowed 1 (whole_of 1 2) File (codes "version") d
  tasks ← needed objects_of File (codes "tasks") d
  sems ← allowed [] objects_of File (codes "semaphores") d
  modules ← allowed [] objects_of File (codes "modules") d
  done ← only file_fields File d
  top ← graph_in (empty_draft Top version []) sems tasks
  graphs ← walk (add_module version) [] modules
  Ok (record { top = top; modules = graphs })

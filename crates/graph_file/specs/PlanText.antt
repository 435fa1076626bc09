-- Which bytes are a graph file for which plan, and else the first refusal.
use Rattle.std.specs.Prelude.{◌≡◌, ℕ, suc, ◌+◌, false, List, [], ◌∷◌, ◌++◌, length, map, sum_by, not, unwrap_or, is_some, position, Bool, true, Option, None, Result, Ok, Err, ok_or, if◌then◌else◌, nat_le, codes, slice_index_or, ⊤}
use Rattle.std.specs.List.{list_any}
use Rattle.std.specs.Str.{bytes_eq, is_utf8}
use Rattle.serde_json.specs.Data.{Data}
use Rattle.serde_json.specs.Read.{read}
use Rattle.task_graph.specs.declared.net.EdgeRow.{EdgeRow}
use Rattle.task_graph.specs.declared.net.TaskRow.{TaskRow}
use Rattle.task_graph.specs.NetBuilder.{rising}
use Rattle.graph_plans.specs.declared.ops.Op.{Op}
use Rattle.graph_plans.specs.declared.ops.Op.TheVariants.{Input, Read, Text, Match, Back, IfMore, IfHas, Route, Spread, Module, Pipe}
use Rattle.graph_plans.specs.Operations.{shape_of}
use Rattle.graph_plans.specs.ModuleUses.{first_on_cycle, has_chain}
use Rattle.graph_plans.specs.PlanRows.{GraphRows, PlanRows, depth_limit, file_edge_limit, file_semaphore_limit, file_task_limit, module_limit, text_count_limit}
use Rattle.pipe_lines.specs.declared.pipeline.PipeError.{PipeError}
use Rattle.pipe_lines.specs.Pipelines.{spec_fault}
use Rattle.graph_file.specs.declared.numbers.TaskNumbers.{TaskNumbers}
use Rattle.graph_drafts.specs.declared.refusals.GraphError.{GraphError}
use Rattle.graph_drafts.specs.declared.refusals.GraphError.TheVariants.{NotJson, NoSuchName, Repeated, ModuleCycle, TooMany, BadPipe}
use Rattle.graph_drafts.specs.declared.refusals.Kind.TheVariants.{Tasks, Edges, Semaphores, Modules, Depth, Texts}
use Rattle.graph_drafts.specs.declared.scopes.Scope.{Scope}
use Rattle.graph_drafts.specs.declared.scopes.Scope.TheVariants.{Module as OfModule}
use Rattle.graph_drafts.specs.Contents.{each}
use Rattle.graph_drafts.specs.Fields.{graph_spot, sem_spot, task_spot, u32_of}
use Rattle.graph_drafts.specs.OpRows.{FileOpRow, reads, runs, does}
use Rattle.graph_drafts.specs.FileText.{DraftRows, FileRows, TaskNames, TaskText, file_in, puts_field, takes_field}
use Rattle.graph_drafts.specs.Steps.{◌>>=◌, passed, unless, walk}

-- ---- names

-- the names of the tasks
abbrev pub task_names : DraftRows → List (List ℕ)
task_names draft = map (λ (task : TaskText). task.names.name) draft.tasks

-- the names of the modules
abbrev pub names_of_modules : FileRows → List (List ℕ)
names_of_modules file = map (λ (draft : DraftRows). draft.name) file.modules

-- an operation runs one of these modules, or none
abbrev pub runs_one_of : List (List ℕ) → FileOpRow → Bool
runs_one_of modules (reads text) = true
runs_one_of modules (runs name) = is_some (position (bytes_eq name) modules)
runs_one_of modules (does op) = true

-- the numbers of the names in a field, where these are all names
abbrev pub numbers_in : List (List ℕ) → GraphError → List (List ℕ) → Result (List ℕ) GraphError
numbers_in all refusal names = ok_or (each (λ name. position (bytes_eq name) all) names) refusal

-- a task more, by the order of its fields
abbrev pub add_numbers : List (List ℕ) → DraftRows → List TaskNumbers → TaskText → Result (List TaskNumbers) GraphError
add_numbers modules draft before task = let spot = task_spot draft.scope (length before) in do
  known ← passed (runs_one_of modules task.op) (NoSuchName spot (codes "module"))
  to ← numbers_in (task_names draft) (NoSuchName spot (codes "to")) task.names.to
  takes ← numbers_in draft.sem_names (NoSuchName spot (takes_field draft.version)) task.names.takes
  puts ← numbers_in draft.sem_names (NoSuchName spot (puts_field draft.version)) task.names.puts
  Ok (before ++ record { to = to; takes = takes; puts = puts } ∷ [])

-- what the tasks of a graph name
abbrev pub graph_numbers : List (List ℕ) → DraftRows → Result (List TaskNumbers) GraphError
graph_numbers modules draft = walk (add_numbers modules draft) [] draft.tasks

-- a graph more
abbrev pub add_graph_numbers : List (List ℕ) → List (List TaskNumbers) → DraftRows → Result (List (List TaskNumbers)) GraphError
add_graph_numbers modules before draft = do
  numbers ← graph_numbers modules draft
  Ok (before ++ numbers ∷ [])

-- the numbers of what the tasks of the top graph and of each module name
pub record FileNumbers : Type 0 where
  pub top : List TaskNumbers
  pub modules : List (List TaskNumbers)

abbrev pub file_numbers : FileRows → Result FileNumbers GraphError
file_numbers file = do
  top ← graph_numbers (names_of_modules file) file.top
  modules ← walk (add_graph_numbers (names_of_modules file)) [] file.modules
  Ok (record { top = top; modules = modules })

-- a name more, which none before it equals; else the refusal of its place
abbrev pub add_name : (ℕ → GraphError) → List (List ℕ) → List ℕ → Result (List (List ℕ)) GraphError
add_name refusal before name = do
  done ← passed (not (list_any (bytes_eq name) before)) (refusal (length before))
  Ok (before ++ name ∷ [])

-- a task more, with another name than those before it, that names no semaphore twice in a list
abbrev pub add_task_name : Scope → ℕ → List (List ℕ) → TaskNames → Result (List (List ℕ)) GraphError
add_task_name scope version before task = let spot = task_spot scope (length before) in do
  names ← add_name (λ t. Repeated (task_spot scope t) (codes "name")) before task.name
  takes ← walk (add_name (λ k. Repeated spot (takes_field version))) [] task.takes
  puts ← walk (add_name (λ k. Repeated spot (puts_field version))) [] task.puts
  Ok names

-- what the tasks name
abbrev pub names_of_tasks : List TaskText → List TaskNames
names_of_tasks tasks = map (λ (task : TaskText). task.names) tasks

-- the names of a graph's semaphores differ, and then those of its tasks; it gives the latter
abbrev pub graph_names : DraftRows → Result (List (List ℕ)) GraphError
graph_names draft = do
  sems ← walk (add_name (λ s. Repeated (sem_spot draft.scope s) (codes "name"))) [] draft.sem_names
  walk (add_task_name draft.scope draft.version) [] (names_of_tasks draft.tasks)

-- a module more, with another name than those before it, and with names that differ
abbrev pub add_module_name : List (List ℕ) → DraftRows → Result (List (List ℕ)) GraphError
add_module_name before draft = do
  names ← add_name (λ m. Repeated (graph_spot (OfModule m)) (codes "name")) before draft.name
  tasks ← graph_names draft
  Ok names

-- the names in each graph differ, and those of the modules, which it gives
abbrev pub file_names : FileRows → Result (List (List ℕ)) GraphError
file_names file = do
  top ← graph_names file.top
  walk add_module_name [] file.modules

-- ---- the modules that tasks run, and the limits

-- the number of a name among these, or of the place behind them
abbrev pub number_among : List (List ℕ) → List ℕ → ℕ
number_among names name = unwrap_or (position (bytes_eq name) names) (length names)

-- the module that an operation runs, before these, where the modules have these names
abbrev pub used_before : List (List ℕ) → List ℕ → FileOpRow → List ℕ
used_before modules ms (reads text) = ms
used_before modules ms (runs name) = number_among modules name ∷ ms
used_before modules ms (does op) = ms

-- the modules that tasks run
abbrev pub used_by_tasks : List (List ℕ) → List TaskText → List ℕ
used_by_tasks modules [] = []
used_by_tasks modules (task ∷ tasks) = used_before modules (used_by_tasks modules tasks) task.op

-- those that the tasks of each module run
abbrev pub file_uses : FileRows → List (List ℕ)
file_uses file = map (λ (draft : DraftRows). used_by_tasks (names_of_modules file) draft.tasks) file.modules

-- the texts, with this one among them
abbrev pub with_text : List (List ℕ) → List ℕ → List (List ℕ)
with_text texts text = if is_some (position (bytes_eq text) texts) then texts else texts ++ text ∷ []

-- the texts that are mentioned then
abbrev pub mentioned : List (List ℕ) → FileOpRow → List (List ℕ)
mentioned texts (reads text) = with_text texts text
mentioned texts (runs name) = texts
mentioned texts (does op) = texts

abbrev pub mentioned_by_tasks : List (List ℕ) → List TaskText → List (List ℕ)
mentioned_by_tasks texts [] = texts
mentioned_by_tasks texts (task ∷ tasks) = mentioned_by_tasks (mentioned texts task.op) tasks

abbrev pub mentioned_by_graphs : List (List ℕ) → List DraftRows → List (List ℕ)
mentioned_by_graphs texts [] = texts
mentioned_by_graphs texts (draft ∷ drafts) = mentioned_by_graphs (mentioned_by_tasks texts draft.tasks) drafts

-- the texts that a file mentions, each once, in the order in which they are first mentioned
abbrev pub file_texts : FileRows → List (List ℕ)
file_texts file = mentioned_by_graphs [] (file.top ∷ file.modules)

-- the tasks, edges and semaphores of some graphs, counted
pub record Counts : Type 0 where
  pub tasks : ℕ
  pub edges : ℕ
  pub sems : ℕ

abbrev pub edge_total : List TaskNumbers → ℕ
edge_total numbers = sum_by (λ (task : TaskNumbers). length task.to) numbers

abbrev pub file_counts : FileRows → FileNumbers → Counts
file_counts file numbers = record {
  tasks = sum_by (λ (draft : DraftRows). length draft.tasks) (file.top ∷ file.modules);
  edges = sum_by edge_total (numbers.top ∷ numbers.modules);
  sems = sum_by (λ (draft : DraftRows). length draft.sems) (file.top ∷ file.modules);
}

-- there are not too many tasks, edges, semaphores and modules
abbrev pub within_counts : FileRows → FileNumbers → Result ⊤ GraphError
within_counts file numbers = let counts = file_counts file numbers in do
  tasks ← passed (nat_le counts.tasks file_task_limit) (TooMany Tasks)
  edges ← passed (nat_le counts.edges file_edge_limit) (TooMany Edges)
  sems ← passed (nat_le counts.sems file_semaphore_limit) (TooMany Semaphores)
  passed (nat_le (length file.modules) module_limit) (TooMany Modules)

-- modules nest too deep: a chain of more than so many of them begins with one that the top graph's tasks run
abbrev pub nests_too_deep : FileRows → Bool
nests_too_deep file = has_chain (depth_limit + 1) (file_uses file) (used_by_tasks (names_of_modules file) file.top.tasks)

-- no module is on a cycle of uses, and there is not too much in the file
abbrev pub within_limits : FileRows → FileNumbers → Result ⊤ GraphError
within_limits file numbers = do
  nested ← unless (first_on_cycle (file_uses file)) (λ m. ModuleCycle (slice_index_or (names_of_modules file) m []))
  few ← within_counts file numbers
  shallow ← passed (not (nests_too_deep file)) (TooMany Depth)
  passed (nat_le (length (file_texts file)) text_count_limit) (TooMany Texts)

-- ---- pipelines

-- why the pipes of an operation, if it has some, are no pipeline: the first reason
abbrev pub pipe_fault : Op → Option PipeError
pipe_fault Input = None
pipe_fault (Read text) = None
pipe_fault (Text op) = None
pipe_fault Match = None
pipe_fault Back = None
pipe_fault (IfMore n) = None
pipe_fault (IfHas word) = None
pipe_fault (Route words) = None
pipe_fault (Spread n op) = None
pipe_fault (Module m) = None
pipe_fault (Pipe plan) = spec_fault plan.spec

abbrev pub file_op_fault : FileOpRow → Option PipeError
file_op_fault (reads text) = None
file_op_fault (runs name) = None
file_op_fault (does op) = pipe_fault op

-- a task more, whose pipes are a pipeline, if it has some
abbrev pub add_pipeline : Scope → ℕ → TaskText → Result ℕ GraphError
add_pipeline scope t task = do
  done ← unless (file_op_fault task.op) (λ error. BadPipe (task_spot scope t) error)
  Ok (suc t)

-- so are those of all tasks of a graph, of which there are so many
abbrev pub graph_pipelines : DraftRows → Result ℕ GraphError
graph_pipelines draft = walk (add_pipeline draft.scope) 0 draft.tasks

-- of one graph more
abbrev pub add_graph_pipelines : ⊤ → DraftRows → Result ⊤ GraphError
add_graph_pipelines before draft = graph_pipelines draft >>= λ tasks. Ok tt

-- of all graphs
abbrev pub file_pipelines : FileRows → Result ⊤ GraphError
file_pipelines file = walk add_graph_pipelines tt (file.top ∷ file.modules)

-- ---- the plan

-- an edge of the task of this number
abbrev pub edge_to : ℕ → ℕ → EdgeRow
edge_to from to = record { from = from; to = to; start = false }

-- the edges of tasks, of which the first has this number
abbrev pub edges_from : ℕ → List TaskNumbers → List EdgeRow
edges_from t [] = []
edges_from t (task ∷ tasks) = map (edge_to t) task.to ++ edges_from (suc t) tasks

-- the task of an operation, where there are so many semaphores
abbrev pub task_row : ℕ → Op → TaskNumbers → TaskRow
task_row sems op task = record { shape = shape_of op; takes = rising sems task.takes; puts = rising sems task.puts }

-- the tasks with these operations
abbrev pub task_rows : ℕ → List Op → List TaskNumbers → List TaskRow
task_rows sems [] tasks = []
task_rows sems (op ∷ ops) [] = []
task_rows sems (op ∷ ops) (task ∷ tasks) = task_row sems op task ∷ task_rows sems ops tasks

-- the operation, where the modules and the texts have these names
abbrev pub numbered : List (List ℕ) → List (List ℕ) → FileOpRow → Op
numbered modules texts (reads text) = Read (u32_of (number_among texts text))
numbered modules texts (runs name) = Module (u32_of (number_among modules name))
numbered modules texts (does op) = op

-- the operations of tasks
abbrev pub ops_of : List (List ℕ) → List (List ℕ) → List TaskText → List Op
ops_of modules texts tasks = map (λ (task : TaskText). numbered modules texts task.op) tasks

-- the graph of these tasks
abbrev pub graph_with : List (List ℕ) → List (List ℕ) → DraftRows → List TaskNumbers → GraphRows
graph_with modules texts draft numbers = record {
  name = draft.name;
  names = task_names draft;
  ops = ops_of modules texts draft.tasks;
  sem_names = draft.sem_names;
  net = record { tasks = task_rows (length draft.sems) (ops_of modules texts draft.tasks) numbers; edges = edges_from 0 numbers; sems = draft.sems };
}

-- the graphs of drafts with these numbers
abbrev pub graphs_with : List (List ℕ) → List (List ℕ) → List DraftRows → List (List TaskNumbers) → List GraphRows
graphs_with modules texts [] numbers = []
graphs_with modules texts (draft ∷ drafts) [] = []
graphs_with modules texts (draft ∷ drafts) (n ∷ numbers) = graph_with modules texts draft n ∷ graphs_with modules texts drafts numbers

-- the plan of these graphs
abbrev pub plan_with : FileRows → FileNumbers → PlanRows
plan_with file numbers = record {
  top = graph_with (names_of_modules file) (file_texts file) file.top numbers.top;
  modules = graphs_with (names_of_modules file) (file_texts file) file.modules numbers.modules;
  texts = file_texts file;
}

-- the classes of refusals in their order, after that of fields
abbrev pub plan_of : FileRows → Result PlanRows GraphError
plan_of file = do
  numbers ← file_numbers file
  names ← file_names file
  few ← within_limits file numbers
  pipelines ← file_pipelines file
  Ok (plan_with file numbers)

-- ---- the bytes

-- the JSON of a text in UTF-8
abbrev pub json_in : List ℕ → Result Data GraphError
json_in bytes = if is_utf8 bytes then ok_or (read bytes) NotJson else Err NotJson

-- the plan that a JSON value stands for, or the first refusal
abbrev pub plan_in : Data → Result PlanRows GraphError
plan_in d = file_in d >>= plan_of

-- the plan that the bytes stand for, or the first refusal
abbrev pub read_plan : List ℕ → Result PlanRows GraphError
read_plan bytes = json_in bytes >>= plan_in

-- the bytes are a graph file for this plan
abbrev pub PlanText : List ℕ → PlanRows → Type 0
PlanText bytes plan = read_plan bytes ≡ Ok plan

-- they are none, and this is the first refusal
abbrev pub IsRefused : List ℕ → GraphError → Type 0
IsRefused bytes refusal = read_plan bytes ≡ Err refusal

-- some bytes are a graph file for this plan
pub record HasFile (plan : PlanRows) : Type 0 where
  pub bytes : List ℕ
  pub stands : PlanText bytes plan

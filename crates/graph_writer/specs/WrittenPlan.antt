-- How a plan is written.
use Rattle.std.specs.Prelude.{ℕ, suc, Bool, List, [], ◌∷◌, map, filter, ◌==◌, slice_index_or, codes}
use Rattle.serde_json.specs.Data.{Data, boolean, string, number, unsigned, array, object, Members, no_members, member, put}
use Rattle.serde_json.specs.View.{items_of}
use Rattle.serde_json.specs.Written.{compact_text}
use Rattle.task_graph.specs.declared.net.EdgeRow.{EdgeRow}
use Rattle.task_graph.specs.declared.net.TaskRow.{TaskRow}
use Rattle.graph_plans.specs.declared.ops.Op.{Op}
use Rattle.graph_plans.specs.declared.ops.Op.TheVariants.{Input, Read, Text, Match, Back, IfMore, IfHas, Route, Spread, Module, Pipe}
use Rattle.graph_plans.specs.declared.ops.TextOp.{TextOp}
use Rattle.graph_plans.specs.declared.ops.TextOp.TheVariants.{Pass, Keep, Without, Head, Tail, Skip, Sort, Uniq, Count, Tally}
use Rattle.graph_plans.specs.declared.pipes.LineOp.{LineOp}
use Rattle.graph_plans.specs.declared.pipes.LineOp.TheVariants.{Text as LineText, Number, Stamp}
use Rattle.graph_plans.specs.declared.pipes.PipePlan.{PipePlan}
use Rattle.graph_plans.specs.PlanRows.{GraphRows, PlanRows, module_names}
use Rattle.pipe_lines.specs.declared.deferral.DeferRow.{DeferRow}
use Rattle.graph_drafts.specs.FileText.{TaskNames}

-- the name of an operation, and its own fields
pub record OpText : Type 0 where
  pub name : List ℕ
  pub own : Members

abbrev pub without_field : List ℕ → OpText
without_field name = record { name = name; own = no_members }

abbrev pub with_field : List ℕ → List ℕ → Data → OpText
with_field name field content = record { name = name; own = member field content no_members }

abbrev pub lines_data : ℕ → Data
lines_data n = number (unsigned n)

abbrev pub strings_data : List (List ℕ) → Data
strings_data strings = array (items_of (map string strings))

abbrev pub text_op_text : TextOp → OpText
text_op_text Pass = without_field (codes "pass")
text_op_text (Keep word) = with_field (codes "keep") (codes "word") (string word)
text_op_text (Without word) = with_field (codes "without") (codes "word") (string word)
text_op_text (Head n) = with_field (codes "head") (codes "n") (lines_data n)
text_op_text (Tail n) = with_field (codes "tail") (codes "n") (lines_data n)
text_op_text (Skip n) = with_field (codes "skip") (codes "n") (lines_data n)
text_op_text Sort = without_field (codes "sort")
text_op_text Uniq = without_field (codes "uniq")
text_op_text Count = without_field (codes "count")
text_op_text Tally = without_field (codes "tally")

-- an operation on one text as an object of its own
abbrev pub each_data : TextOp → Data
each_data op = object (put (codes "op") (string (text_op_text op).name) (text_op_text op).own)

abbrev pub spread_text : ℕ → TextOp → OpText
spread_text n op = record { name = codes "spread"; own = put (codes "each") (each_data op) (member (codes "n") (lines_data n) no_members) }

-- ---- pipelines

abbrev pub line_op_text : LineOp → OpText
line_op_text (LineText op) = text_op_text op
line_op_text Number = without_field (codes "number")
line_op_text Stamp = without_field (codes "stamp")

-- a pipe
abbrev pub pipe_data : Bool → LineOp → Data
pipe_data serial op = object (put (codes "op") (string (line_op_text op).name) (put (codes "serial") (boolean serial) (line_op_text op).own))

-- the pipes with these operations
abbrev pub pipes_from : List Bool → List LineOp → List Data
pipes_from [] ops = []
pipes_from (serial ∷ rest) [] = []
pipes_from (serial ∷ rest) (op ∷ ops) = pipe_data serial op ∷ pipes_from rest ops

-- a token that waits for others
abbrev pub defer_data : DeferRow → Data
defer_data row = object (member (codes "to") (array (items_of (map lines_data row.to))) (member (codes "token") (lines_data row.token) no_members))

abbrev pub pipe_text : PipePlan → OpText
pipe_text plan = record {
  name = codes "pipe";
  own = put (codes "defer") (array (items_of (map defer_data plan.defers))) (put (codes "lines") (lines_data plan.spec.lines) (put (codes "n") (lines_data plan.chunk) (member (codes "pipes") (array (items_of (pipes_from plan.spec.serial plan.ops))) no_members)));
}

-- ---- tasks

-- the same of a task's operation, where these are the names of the texts and of the modules
abbrev pub op_text : List (List ℕ) → List (List ℕ) → Op → OpText
op_text texts modules Input = without_field (codes "input")
op_text texts modules (Read text) = with_field (codes "read") (codes "text") (string (slice_index_or texts text []))
op_text texts modules (Text op) = text_op_text op
op_text texts modules Match = without_field (codes "match")
op_text texts modules Back = without_field (codes "back")
op_text texts modules (IfMore n) = with_field (codes "ifmore") (codes "n") (lines_data n)
op_text texts modules (IfHas word) = with_field (codes "ifhas") (codes "word") (string word)
op_text texts modules (Route words) = with_field (codes "route") (codes "words") (strings_data words)
op_text texts modules (Spread n op) = spread_text n op
op_text texts modules (Module m) = with_field (codes "module") (codes "module") (string (slice_index_or modules m []))
op_text texts modules (Pipe plan) = pipe_text plan

-- a semaphore
abbrev pub sem_data : List ℕ → ℕ → Data
sem_data name max = object (member (codes "max") (number (unsigned max)) (member (codes "name") (string name) no_members))

-- the semaphores with these names and maxima
abbrev pub sems_from : List (List ℕ) → List ℕ → List Data
sems_from [] maxima = []
sems_from (name ∷ names) [] = []
sems_from (name ∷ names) (max ∷ maxima) = sem_data name max ∷ sems_from names maxima

-- a task, with the names in its `to`, and those of the semaphores that it takes and puts
abbrev pub task_data : OpText → TaskNames → Data
task_data op task = object (put (codes "acquire") (strings_data task.takes) (put (codes "name") (string task.name) (put (codes "op") (string op.name) (put (codes "release") (strings_data task.puts) (put (codes "to") (strings_data task.to) op.own)))))

-- the names of the tasks to which the edges of task t of a graph lead, in their order
abbrev pub to_of : GraphRows → ℕ → List (List ℕ)
to_of graph t = map (λ (edge : EdgeRow). slice_index_or graph.names edge.to []) (filter (λ (edge : EdgeRow). edge.from == t) graph.net.edges)

-- the names of these semaphores of a graph
abbrev pub sems_named : GraphRows → List ℕ → List (List ℕ)
sems_named graph sems = map (λ s. slice_index_or graph.sem_names s []) sems

-- the tasks of a graph with these names, operations and rows, of which the first has this number
abbrev pub tasks_from : List (List ℕ) → List (List ℕ) → GraphRows → ℕ → List (List ℕ) → List Op → List TaskRow → List Data
tasks_from texts modules graph t (name ∷ names) (op ∷ ops) (row ∷ rows) =
    task_data (op_text texts modules op) (record { name = name; to = to_of graph t; takes = sems_named graph row.takes; puts = sems_named graph row.puts }) ∷ tasks_from texts modules graph (suc t) names ops rows
tasks_from texts modules graph t names ops rows = []

-- the tasks of a graph of a plan
abbrev pub tasks_data : PlanRows → GraphRows → List Data
tasks_data plan graph = tasks_from plan.texts (module_names plan) graph 0 graph.names graph.ops graph.net.tasks

-- a module with these semaphores and tasks
abbrev pub module_with : List ℕ → List Data → List Data → Data
module_with name sems tasks = object (put (codes "name") (string name) (put (codes "semaphores") (array (items_of sems)) (put (codes "tasks") (array (items_of tasks)) no_members)))

-- a module of a plan
abbrev pub module_data : PlanRows → GraphRows → Data
module_data plan graph = module_with graph.name (sems_from graph.sem_names graph.net.sems) (tasks_data plan graph)

-- the file with these modules, semaphores and tasks, of version 2
abbrev pub file_data : List Data → List Data → List Data → Data
file_data modules sems tasks = object (put (codes "modules") (array (items_of modules)) (put (codes "semaphores") (array (items_of sems)) (put (codes "tasks") (array (items_of tasks)) (put (codes "version") (number (unsigned 2)) no_members))))

-- the file of a plan
abbrev pub plan_data : PlanRows → Data
plan_data plan = file_data (map (module_data plan) plan.modules) (sems_from plan.top.sem_names plan.top.net.sems) (tasks_data plan plan.top)

-- the text that is written for a plan: no spaces, and the fields of each object in the order of their bytes
abbrev pub plan_text : PlanRows → List ℕ
plan_text plan = compact_text (plan_data plan)

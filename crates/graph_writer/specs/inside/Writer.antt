-- What the code that writes needs of a plan, and what it has of an operation.
use Rattle.std.specs.Prelude.{◌≡◌, ℕ, ◌<◌, ◌≤◌, false, List, [], length, slice_index_or, true, All, ⊤, codes}
use Rattle.std.specs.Str.{is_utf8}
use Rattle.serde_json.specs.Data.{Data, object, put, string}
use Rattle.serde_json.specs.View.{members_view}
use Rattle.task_graph.specs.declared.net.Shape.TheVariants.{Plain}
use Rattle.task_graph.specs.declared.net.TaskRow.{TaskRow}
use Rattle.graph_plans.specs.declared.ops.Op.{Op}
use Rattle.graph_plans.specs.declared.ops.Op.TheVariants.{Input, Read, Text, Match, Back, IfMore, IfHas, Route, Spread, Module, Pipe}
use Rattle.graph_plans.specs.declared.ops.TextOp.{TextOp}
use Rattle.graph_plans.specs.declared.ops.TextOp.TheVariants.{Pass, Keep, Without, Head, Tail, Skip, Sort, Uniq, Count, Tally}
use Rattle.graph_plans.specs.declared.pipes.LineOp.{LineOp}
use Rattle.graph_plans.specs.declared.pipes.LineOp.TheVariants.{Text as LineText, Number, Stamp}
use Rattle.graph_plans.specs.declared.pipes.PipePlan.{PipePlan}
use Rattle.graph_plans.specs.PlanEdges.{IsAmong}
use Rattle.graph_plans.specs.PlanRows.{GraphRows, PlanRows, file_task_limit, module_names}
use Rattle.graph_writer.specs.declared.op_writer.WrittenOp.{WrittenOp}
use Rattle.graph_drafts.specs.FileText.{TaskNames}
use Rattle.graph_writer.specs.WrittenPlan.{OpText, sems_named, to_of}

-- what is written as a string is UTF-8
abbrev pub IsString : List ℕ → Type 0
IsString s = is_utf8 s ≡ true

-- the word of an operation is UTF-8
abbrev pub HasUtf8Word : TextOp → Type 0
HasUtf8Word Pass = ⊤
HasUtf8Word (Keep word) = IsString word
HasUtf8Word (Without word) = IsString word
HasUtf8Word (Head n) = ⊤
HasUtf8Word (Tail n) = ⊤
HasUtf8Word (Skip n) = ⊤
HasUtf8Word Sort = ⊤
HasUtf8Word Uniq = ⊤
HasUtf8Word Count = ⊤
HasUtf8Word Tally = ⊤

abbrev pub HasUtf8Line : LineOp → Type 0
HasUtf8Line (LineText op) = HasUtf8Word op
HasUtf8Line Number = ⊤
HasUtf8Line Stamp = ⊤

-- each pipe has an operation, with such words
pub record HasUtf8Pipes (plan : PipePlan) : Type 0 where
  pub count : length plan.ops ≡ length plan.spec.serial
  pub ops : All HasUtf8Line plan.ops

-- what an operation names is UTF-8, where these are the names of the texts and of the modules
abbrev pub HasUtf8 : List (List ℕ) → List (List ℕ) → Op → Type 0
HasUtf8 texts modules Input = ⊤
HasUtf8 texts modules (Read text) = (text < length texts) × IsString (slice_index_or texts text [])
HasUtf8 texts modules (Text op) = HasUtf8Word op
HasUtf8 texts modules Match = ⊤
HasUtf8 texts modules Back = ⊤
HasUtf8 texts modules (IfMore n) = ⊤
HasUtf8 texts modules (IfHas word) = IsString word
HasUtf8 texts modules (Route words) = All IsString words
HasUtf8 texts modules (Spread n each) = HasUtf8Word each
HasUtf8 texts modules (Module m) = (m < length modules) × IsString (slice_index_or modules m [])
HasUtf8 texts modules (Pipe plan) = HasUtf8Pipes plan

-- a semaphore that has a name
abbrev pub HasSems : ℕ → TaskRow → Type 0
HasSems sems row = All (λ s. s < sems) row.takes × All (λ s. s < sems) row.puts

-- the names in a graph are UTF-8, and its edges lead to tasks
pub record HasWritableNames (graph : GraphRows) : Type 0 where
  pub names : All IsString graph.names
  pub task_count : length graph.net.tasks ≡ length graph.names
  pub few_tasks : length graph.names ≤ file_task_limit
  pub edges : All (IsAmong (length graph.names)) graph.net.edges
  pub sem_names : All IsString graph.sem_names
  pub sem_count : length graph.net.sems ≡ length graph.sem_names
  pub sems : All (HasSems (length graph.sem_names)) graph.net.tasks

-- and so is what its operations name, where these are the names of the texts and of the modules
pub record IsWritableGraph (texts modules : List (List ℕ)) (graph : GraphRows) : Type 0 where
  pub names : HasWritableNames graph
  pub ops : All (HasUtf8 texts modules) graph.ops
  pub op_count : length graph.ops ≡ length graph.names

-- so is each graph, and the names of the modules are UTF-8
pub record IsWritable (plan : PlanRows) : Type 0 where
  pub top : IsWritableGraph plan.texts (module_names plan) plan.top
  pub modules : All (IsWritableGraph plan.texts (module_names plan)) plan.modules
  pub names : All IsString (module_names plan)

abbrev pub op_text_of : WrittenOp → OpText
op_text_of written = record { name = written.name.now; own = members_view written.own.entries }

-- a task, where its name and its lists are values already
abbrev pub task_object : OpText → Data → Data → Data → Data → Data
task_object op name to takes puts = object (put (codes "acquire") takes (put (codes "name") name (put (codes "op") (string op.name) (put (codes "release") puts (put (codes "to") to op.own)))))

-- the name of the task to which the edge of this number leads
abbrev pub end_name : GraphRows → ℕ → List ℕ
end_name graph e = slice_index_or graph.names (slice_index_or graph.net.edges e (record { from = 0; to = 0; start = false })).to []

-- what stands for the row of a task that isn't there
abbrev pub no_row : TaskRow
no_row = record { shape = Plain; takes = []; puts = [] }

-- the names that are written for task t
abbrev pub names_at : GraphRows → ℕ → TaskNames
names_at graph t = record {
  name = slice_index_or graph.names t [];
  to = to_of graph t;
  takes = sems_named graph (slice_index_or graph.net.tasks t no_row).takes;
  puts = sems_named graph (slice_index_or graph.net.tasks t no_row).puts;
}

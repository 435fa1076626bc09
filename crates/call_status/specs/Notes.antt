-- The line of a status on standard error, as bytes.
use Rattle.std.specs.Prelude.{ℕ, List, [], ◌++◌, codes, decimal, Option}
use Rattle.graph_plans.specs.declared.spots.Spot.{Spot}
use Rattle.graph_plans.specs.declared.spots.Spot.TheVariants.{File, Sem, Task, Module, ModuleSem, ModuleTask}
use Rattle.graph_plans.specs.PlanRows.{PlanRows}
use Rattle.graph_drafts.specs.declared.refusals.Kind.{Kind}
use Rattle.graph_drafts.specs.declared.refusals.Kind.TheVariants as kind
use Rattle.graph_drafts.specs.declared.refusals.GraphError.{GraphError}
use Rattle.graph_drafts.specs.declared.refusals.GraphError.TheVariants as error
use Rattle.pipe_lines.specs.declared.pipeline.PipeError.{PipeError}
use Rattle.pipe_lines.specs.declared.pipeline.PipeError.TheVariants as pipes
use Rattle.call_status.specs.Reasons.{fault_text, limit_text, stuck_text}
use Rattle.call_status.specs.declared.status.Status.{Status}
use Rattle.call_status.specs.declared.status.Status.TheVariants.{Done, BadWords, BadGraph, NoSource, NoText, LongText, ReadFault, WriteFault, Limit, TaskFault, Stuck, NotLegal, BadJournal, NoMemory}

-- A place in a graph file, with its numbers in decimal.
abbrev pub spot_text : Spot → List ℕ
spot_text File = codes "file"
spot_text (Sem sem) = codes "semaphore " ++ decimal sem
spot_text (Task task) = codes "task " ++ decimal task
spot_text (Module place) = codes "module " ++ decimal place
spot_text (ModuleSem place sem) = codes "module " ++ decimal place ++ codes " semaphore " ++ decimal sem
spot_text (ModuleTask place task) = codes "module " ++ decimal place ++ codes " task " ++ decimal task

-- The plural of what there are too many of.
abbrev pub kind_text : Kind → List ℕ
kind_text kind.Tasks = codes "tasks"
kind_text kind.Edges = codes "edges"
kind_text kind.Semaphores = codes "semaphores"
kind_text kind.Modules = codes "modules"
kind_text kind.Depth = codes "depth"
kind_text kind.Texts = codes "texts"

-- Why pipes are no pipeline.
abbrev pub pipe_error_text : PipeError → List ℕ
pipe_error_text pipes.NoLines = codes "no lines"
pipe_error_text pipes.NoPipes = codes "no pipes"
pipe_error_text pipes.FirstParallel = codes "first pipe is parallel"
pipe_error_text pipes.TooManyLines = codes "too many lines"
pipe_error_text pipes.TooManyPipes = codes "too many pipes"
pipe_error_text pipes.NoMemory = codes "no memory"

-- Why the bytes are no graph file. The names of fields and modules are written as they are.
abbrev pub graph_error_text : GraphError → List ℕ
graph_error_text error.NotJson = codes "not JSON"
graph_error_text (error.BadField spot field) = codes "bad field " ++ field ++ codes " in " ++ spot_text spot
graph_error_text (error.NoSuchName spot field) = codes "no such name in " ++ field ++ codes " of " ++ spot_text spot
graph_error_text (error.Repeated spot field) = codes "repeated name in " ++ field ++ codes " of " ++ spot_text spot
graph_error_text (error.ModuleCycle name) = codes "module cycle at " ++ name
graph_error_text (error.TooMany much) = codes "too many " ++ kind_text much
graph_error_text (error.BadPipe spot why) = codes "bad pipe in " ++ spot_text spot ++ codes ": " ++ pipe_error_text why
graph_error_text error.NoMemory = codes "no memory"

-- Where a source is missing. The graph itself needs no word.
abbrev pub within_text : Spot → List ℕ
within_text File = []
within_text spot = codes " in " ++ spot_text spot

-- The whole line with its end, or no byte where all was done. The tasks that it names are those of the plan. A name
-- stands in it as it is.
abbrev pub note_line : Option PlanRows → Status → List ℕ
note_line plan Done = []
note_line plan BadWords = codes "flow: bad words\n"
note_line plan (BadGraph why) = codes "flow: bad graph: " ++ graph_error_text why ++ codes "\n"
note_line plan (NoSource spot) = codes "flow: no source" ++ within_text spot ++ codes "\n"
note_line plan (NoText name) = codes "flow: no text " ++ name ++ codes "\n"
note_line plan (LongText name) = codes "flow: text too long " ++ name ++ codes "\n"
note_line plan (ReadFault name) = codes "flow: read fault on " ++ name ++ codes "\n"
note_line plan WriteFault = codes "flow: write fault\n"
note_line plan (Limit path limit) = codes "flow: " ++ limit_text plan path limit ++ codes "\n"
note_line plan (TaskFault path why) = codes "flow: " ++ fault_text plan path why ++ codes "\n"
note_line plan (Stuck path) = codes "flow: " ++ stuck_text plan path ++ codes "\n"
note_line plan (NotLegal place why) = codes "flow: not legal at " ++ decimal place ++ codes "\n"
note_line plan (BadJournal line) = codes "flow: bad journal line " ++ decimal line ++ codes "\n"
note_line plan NoMemory = codes "flow: no memory\n"

-- The line of each status, written out.
use Rattle.std.proofs.Common.{List, ℕ, ◌≡◌, [], ◌∷◌, None, Some, true, false, refl, codes}
use Rattle.std.specs.Fmt.{digits}
use Rattle.task_graph.specs.NetRows.{NetRows}
use Rattle.graph_plans.specs.declared.ops.Op.{Op}
use Rattle.graph_plans.specs.declared.ops.Op.TheVariants as op
use Rattle.graph_plans.specs.declared.ops.TextOp.TheVariants.{Sort}
use Rattle.graph_plans.specs.PlanRows.{GraphRows, PlanRows}
use Rattle.graph_plans.specs.declared.pipes.LineOp.TheVariants.{Number, Stamp}
use Rattle.pipe_lines.specs.declared.pipeline.PipeError.TheVariants as pipes
use Rattle.graph_plans.specs.declared.spots.Spot.TheVariants.{File, Sem, Task, Module, ModuleSem, ModuleTask}
use Rattle.graph_drafts.specs.declared.refusals.Kind.TheVariants as kind
use Rattle.graph_drafts.specs.declared.refusals.GraphError.TheVariants as error
use Rattle.journal_rules.specs.declared.entry.Why.TheVariants.{Long as TooLong, Wide, Unmet, Inner, OverRelease}
use Rattle.legal_run.specs.declared.verdict.Break.TheVariants.{NotReleased}
use Rattle.nested_runs.specs.declared.reasons.Reason.TheVariants as reason
use Rattle.call_status.specs.Paths.{among_behind, among_run, cell_text, cells, parts, path_from, path_text, task_text, tasks}
use Rattle.call_status.specs.Reasons.{reason_line}
use Rattle.call_status.specs.declared.status.Status.{Status}
use Rattle.call_status.specs.declared.status.Status.TheVariants.{Done, BadWords, BadGraph, NoSource, NoText, LongText, ReadFault, WriteFault, Limit, TaskFault, Stuck, NotLegal, BadJournal, NoMemory}
use Rattle.call_status.specs.Notes.{note_line, spot_text}

-- the line of a status that names no task
abbrev line : Status → List ℕ
line = note_line None

all_done : line Done ≡ []
all_done = refl

-- in bytes, so that the last one is seen to be the line end
bad_words : line BadWords ≡ 102 ∷ 108 ∷ 111 ∷ 119 ∷ 58 ∷ 32 ∷ 98 ∷ 97 ∷ 100 ∷ 32 ∷ 119 ∷ 111 ∷ 114 ∷ 100 ∷ 115 ∷ 10 ∷ []
bad_words = refl

not_json : line (BadGraph error.NotJson) ≡ codes "flow: bad graph: not JSON\n"
not_json = refl

bad_field_in_file : line (BadGraph (error.BadField File (codes "tasks"))) ≡ codes "flow: bad graph: bad field tasks in file\n"
bad_field_in_file = refl

no_such_name : line (BadGraph (error.NoSuchName (ModuleTask 12 405) (codes "sem"))) ≡ codes "flow: bad graph: no such name in sem of module 12 task 405\n"
unfolding digits
no_such_name = refl

repeated_name : line (BadGraph (error.Repeated (Task 0) (codes "name"))) ≡ codes "flow: bad graph: repeated name in name of task 0\n"
unfolding digits
repeated_name = refl

module_cycle : line (BadGraph (error.ModuleCycle (codes "clean"))) ≡ codes "flow: bad graph: module cycle at clean\n"
module_cycle = refl

too_many_tasks : line (BadGraph (error.TooMany kind.Tasks)) ≡ codes "flow: bad graph: too many tasks\n"
too_many_tasks = refl

too_many_edges : line (BadGraph (error.TooMany kind.Edges)) ≡ codes "flow: bad graph: too many edges\n"
too_many_edges = refl

too_many_semaphores : line (BadGraph (error.TooMany kind.Semaphores)) ≡ codes "flow: bad graph: too many semaphores\n"
too_many_semaphores = refl

too_many_modules : line (BadGraph (error.TooMany kind.Modules)) ≡ codes "flow: bad graph: too many modules\n"
too_many_modules = refl

too_much_depth : line (BadGraph (error.TooMany kind.Depth)) ≡ codes "flow: bad graph: too many depth\n"
too_much_depth = refl

too_many_texts : line (BadGraph (error.TooMany kind.Texts)) ≡ codes "flow: bad graph: too many texts\n"
too_many_texts = refl

no_lines : line (BadGraph (error.BadPipe (Task 1) pipes.NoLines)) ≡ codes "flow: bad graph: bad pipe in task 1: no lines\n"
unfolding digits
no_lines = refl

no_pipes : line (BadGraph (error.BadPipe (ModuleTask 0 2) pipes.NoPipes)) ≡ codes "flow: bad graph: bad pipe in module 0 task 2: no pipes\n"
unfolding digits
no_pipes = refl

first_parallel : line (BadGraph (error.BadPipe (Task 1) pipes.FirstParallel)) ≡ codes "flow: bad graph: bad pipe in task 1: first pipe is parallel\n"
unfolding digits
first_parallel = refl

too_many_lines : line (BadGraph (error.BadPipe (Task 0) pipes.TooManyLines)) ≡ codes "flow: bad graph: bad pipe in task 0: too many lines\n"
unfolding digits
too_many_lines = refl

too_many_pipes : line (BadGraph (error.BadPipe (Task 0) pipes.TooManyPipes)) ≡ codes "flow: bad graph: bad pipe in task 0: too many pipes\n"
unfolding digits
too_many_pipes = refl

no_memory_for_graph : line (BadGraph error.NoMemory) ≡ codes "flow: bad graph: no memory\n"
no_memory_for_graph = refl

no_source : line (NoSource File) ≡ codes "flow: no source\n"
no_source = refl

no_source_in_module : line (NoSource (Module 3)) ≡ codes "flow: no source in module 3\n"
unfolding digits
no_source_in_module = refl

no_source_in_task : line (NoSource (Task 10)) ≡ codes "flow: no source in task 10\n"
unfolding digits
no_source_in_task = refl

no_text : line (NoText (codes "a b.txt")) ≡ codes "flow: no text a b.txt\n"
no_text = refl

long_text : line (LongText (codes "big")) ≡ codes "flow: text too long big\n"
long_text = refl

read_fault : line (ReadFault (codes "disk")) ≡ codes "flow: read fault on disk\n"
read_fault = refl

write_fault : line WriteFault ≡ codes "flow: write fault\n"
write_fault = refl

no_memory : line NoMemory ≡ codes "flow: no memory\n"
no_memory = refl

-- the places that no line above names, and the largest number
a_semaphore : spot_text (Sem 4294967295) ≡ codes "semaphore 4294967295"
unfolding digits
a_semaphore = refl

a_semaphore_in_a_module : spot_text (ModuleSem 0 70) ≡ codes "module 0 semaphore 70"
unfolding digits
a_semaphore_in_a_module = refl

-- A plan: tasks 0, 1 and 2 of its top graph are `a`, which runs a module, `b`, which is a spread, and `c`; task 3 is
-- `d`, a pipeline of three pipes. The module's task 0 is `x` and runs that module; its task 1 is `y`, a spread.
abbrev no_net : NetRows
no_net = record { tasks = []; edges = []; sems = [] }

abbrev piped : Op
piped = op.Pipe (record { spec = record { lines = 2; serial = true ∷ false ∷ true ∷ [] }; ops = Number ∷ Number ∷ Stamp ∷ []; chunk = 1; defers = [] })

abbrev top : GraphRows
top = record { name = []; names = codes "a" ∷ codes "b" ∷ codes "c" ∷ codes "d" ∷ []; ops = op.Module 0 ∷ op.Spread 1 Sort ∷ op.Match ∷ piped ∷ []; sem_names = []; net = no_net }

abbrev inside : GraphRows
inside = record { name = codes "m"; names = codes "x" ∷ codes "y" ∷ []; ops = op.Module 0 ∷ op.Spread 1 Sort ∷ []; sem_names = []; net = no_net }

abbrev plan : PlanRows
plan = record { top = top; modules = inside ∷ []; texts = [] }

module_is_run : among_run (inside ∷ []) (op.Module 0) ≡ tasks inside
module_is_run = refl

no_such_module_is_run : among_run (inside ∷ []) (op.Module 1) ≡ parts
no_such_module_is_run = refl

parts_are_run : among_run (inside ∷ []) (op.Spread 1 Sort) ≡ parts
parts_are_run = refl

cells_are_run : among_run (inside ∷ []) piped ≡ cells 3
cells_are_run = refl

behind_a_task : among_behind (inside ∷ []) (tasks top) 0 ≡ tasks inside
behind_a_task = refl

behind_no_task : among_behind (inside ∷ []) (tasks top) 4 ≡ parts
behind_no_task = refl

behind_a_part : among_behind (inside ∷ []) parts 0 ≡ parts
behind_a_part = refl

behind_a_cell : among_behind (inside ∷ []) (cells 3) 0 ≡ parts
behind_a_cell = refl

named_task : task_text (tasks inside) 1 ≡ codes "y"
named_task = refl

unnamed_task : task_text (tasks inside) 2 ≡ []
unnamed_task = refl

numbered_part : task_text parts 65535 ≡ codes "65535"
unfolding digits
numbered_part = refl

numbered_cell : (task_text (cells 3) 5 ≡ codes "1.2") × (task_text (cells 1) 12 ≡ codes "12.0")
unfolding digits
numbered_cell = (refl, refl)

cell_of_no_pipe : cell_text 0 7 ≡ codes "7"
unfolding digits
cell_of_no_pipe = refl

path_of_no_task : path_from (inside ∷ []) (tasks inside) [] ≡ []
path_of_no_task = refl

path_among_parts : path_from (inside ∷ []) parts (7 ∷ 0 ∷ []) ≡ codes "7/0"
unfolding digits
path_among_parts = refl

path_through_modules : path_text (Some plan) (0 ∷ 0 ∷ 0 ∷ 1 ∷ 12 ∷ []) ≡ codes "a/x/x/y/12"
unfolding digits
path_through_modules = refl

path_to_a_cell : path_text (Some plan) (3 ∷ 4 ∷ []) ≡ codes "d/1.1"
unfolding digits
path_to_a_cell = refl

path_without_a_plan : path_text None (1 ∷ 20 ∷ []) ≡ codes "1/20"
unfolding digits
path_without_a_plan = refl

-- Tasks by their names.
fault : note_line (Some plan) (TaskFault (1 ∷ []) (TooLong 18874368)) ≡ codes "flow: fault b: long 18874368\n"
unfolding digits
fault = refl

fault_inside : note_line (Some plan) (TaskFault (0 ∷ 1 ∷ []) (Wide 65537)) ≡ codes "flow: fault a/y: wide 65537\n"
unfolding digits
fault_inside = refl

fault_of_a_part : note_line (Some plan) (TaskFault (1 ∷ 30 ∷ []) (TooLong 16777217)) ≡ codes "flow: fault b/30: long 16777217\n"
unfolding digits
fault_of_a_part = refl

unmet_token : note_line (Some plan) (TaskFault (3 ∷ 0 ∷ []) (Unmet 4)) ≡ codes "flow: fault d/0.0: unmet 4\n"
unfolding digits
unmet_token = refl

whys : (note_line (Some plan) (TaskFault (0 ∷ []) (Unmet 4)) ≡ codes "flow: fault a: unmet 4\n") × (note_line (Some plan) (TaskFault (0 ∷ []) (OverRelease 0)) ≡ codes "flow: fault a: over 0\n")
unfolding digits
whys = (refl, refl)

run_inside : note_line (Some plan) (TaskFault (0 ∷ []) Inner) ≡ codes "flow: fault a: inner\n"
run_inside = refl

-- a task without a name, and no task
nobody : (note_line (Some plan) (TaskFault (4 ∷ []) Inner) ≡ codes "flow: fault : inner\n") × (note_line (Some plan) (Stuck []) ≡ codes "flow: stuck \n")
nobody = (refl, refl)

limit : note_line (Some plan) (Limit [] 10) ≡ codes "flow: limit 10\n"
unfolding digits
limit = refl

limit_inside : note_line (Some plan) (Limit (0 ∷ []) 10) ≡ codes "flow: limit 10 in a\n"
unfolding digits
limit_inside = refl

limit_two_runs_inside : note_line (Some plan) (Limit (0 ∷ 0 ∷ []) 10) ≡ codes "flow: limit 10 in a/x\n"
unfolding digits
limit_two_runs_inside = refl

stuck_inside : note_line (Some plan) (Stuck (0 ∷ 1 ∷ [])) ≡ codes "flow: stuck a/y\n"
stuck_inside = refl

stuck : note_line (Some plan) (Stuck (2 ∷ [])) ≡ codes "flow: stuck c\n"
stuck = refl

-- The last line of a report.
fine_line : reason_line (Some plan) reason.Fine ≡ []
fine_line = refl

fault_line : reason_line (Some plan) (reason.Fault (0 ∷ 1 ∷ []) (TooLong 9)) ≡ codes "!! fault a/y: long 9\n"
unfolding digits
fault_line = refl

limit_line : reason_line (Some plan) (reason.Limit [] 10) ≡ codes "!! limit 10\n"
unfolding digits
limit_line = refl

limit_line_of_a_run_inside : reason_line (Some plan) (reason.Limit (0 ∷ 0 ∷ []) 10) ≡ codes "!! limit 10 in a/x\n"
unfolding digits
limit_line_of_a_run_inside = refl

stuck_line : reason_line (Some plan) (reason.Stuck (1 ∷ [])) ≡ codes "!! stuck b\n"
stuck_line = refl

-- An entry that breaks a rule is told by its place, and a bad line by its number from 1.
not_legal : line (NotLegal 1200 NotReleased) ≡ codes "flow: not legal at 1200\n"
unfolding digits
not_legal = refl

bad_journal_line : line (BadJournal 3) ≡ codes "flow: bad journal line 3\n"
unfolding digits
bad_journal_line = refl

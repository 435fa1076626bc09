-- The tasks of a path by their names. A path leads from a task of a plan's top graph into the run that the task made,
-- to a task of that run, and so on.
use Rattle.std.specs.Prelude.{ℕ, ◌/◌, ◌%◌, ◌==◌, List, [], ◌∷◌, ◌++◌, codes, decimal, length, slice_get, slice_index_or, Option, None, Some, if◌then◌else◌}
use Rattle.std.specs.Option.{option_map_or}
use Rattle.graph_plans.specs.declared.ops.Op.{Op}
use Rattle.graph_plans.specs.declared.ops.Op.TheVariants.{Module, Pipe}
use Rattle.graph_plans.specs.PlanRows.{GraphRows, PlanRows}

-- what the next task of a path is one of: the tasks of a graph, parts that are worked on side by side, or the cells of
-- a pipeline of so many pipes
pub data Among : Type 0 where
  tasks : GraphRows → Among
  parts : Among
  cells : ℕ → Among

-- what the run of an operation's task consists of, where these are the modules
abbrev pub among_run : List GraphRows → Op → Among
among_run modules (Module m) = option_map_or tasks (slice_get modules m) parts
among_run modules (Pipe plan) = cells (length plan.spec.serial)
among_run modules op = parts

-- what a path goes on among behind a task
abbrev pub among_behind : List GraphRows → Among → ℕ → Among
among_behind modules (tasks graph) task = option_map_or (among_run modules) (slice_get graph.ops task) parts
among_behind modules parts task = parts
among_behind modules (cells pipes) task = parts

-- a cell goes by the numbers of its line and its pipe, with a point between them
abbrev pub cell_text : ℕ → ℕ → List ℕ
cell_text pipes task = if pipes == 0 then decimal task else decimal (task / pipes) ++ codes "." ++ decimal (task % pipes)

-- a task of a graph goes by its name, and a part by its number
abbrev pub task_text : Among → ℕ → List ℕ
task_text (tasks graph) task = slice_index_or graph.names task []
task_text parts task = decimal task
task_text (cells pipes) task = cell_text pipes task

-- the tasks of a path that begins among these, with a slash between two
abbrev pub path_from : List GraphRows → Among → List ℕ → List ℕ
path_from modules among [] = []
path_from modules among (task ∷ []) = task_text among task
path_from modules among (task ∷ next ∷ rest) = task_text among task ++ codes "/" ++ path_from modules (among_behind modules among task) (next ∷ rest)

-- the tasks of a path that begins in the top graph; without a plan they go by their numbers
abbrev pub path_text : Option PlanRows → List ℕ → List ℕ
path_text None path = path_from [] parts path
path_text (Some plan) path = path_from plan.modules (tasks plan.top) path

-- Small plans, to be worked out.
use Rattle.std.specs.Prelude.{ℕ, true, false, List, [], ◌∷◌, codes}
use Rattle.task_graph.specs.NetRows.{NetRows}
use Rattle.task_graph.specs.declared.net.EdgeRow.{EdgeRow}
use Rattle.task_graph.specs.declared.net.Shape.{Shape}
use Rattle.task_graph.specs.declared.net.Shape.TheVariants.{Plain, Choice, Nested}
use Rattle.task_graph.specs.declared.net.TaskRow.{TaskRow}
use Rattle.graph_plans.specs.declared.ops.Op.{Op}
use Rattle.graph_plans.specs.declared.ops.Op.TheVariants.{Input, Read, IfMore, Spread, Module, Pipe, Text as OnText}
use Rattle.graph_plans.specs.declared.ops.TextOp.TheVariants.{Head, Keep, Pass}
use Rattle.graph_plans.specs.declared.pipes.LineOp.TheVariants.{Number}
use Rattle.graph_plans.specs.PlanRows.{GraphRows, PlanRows}
use Rattle.pipe_lines.specs.declared.deferral.DeferRow.{DeferRow}
use Rattle.text_tasks.specs.declared.job.TextJob.{TextJob}
use Rattle.text_tasks.specs.declared.job.TextJob.TheVariants.{Graph}
use Rattle.text_tasks.specs.GraphWork.{first_work}

abbrev task : Shape → TaskRow
task shape = record { shape = shape; takes = []; puts = [] }

abbrev edge : ℕ → ℕ → EdgeRow
edge from to = record { from = from; to = to; start = false }

-- a plan of one graph over two texts
abbrev plan_of : List (List ℕ) → List Op → NetRows → PlanRows
plan_of names ops net = record {
  top = record { name = []; names = names; ops = ops; sem_names = []; net = net };
  modules = [];
  texts = codes "p" ∷ codes "q" ∷ [];
}

-- two texts, of which the lines with an `a` are kept together; one of them is handed to another task besides
abbrev pub kept_together : PlanRows
kept_together = plan_of (codes "p" ∷ codes "q" ∷ codes "k" ∷ codes "h" ∷ [])
    (Read 0 ∷ Read 1 ∷ OnText (Keep (codes "a")) ∷ OnText (Head 1) ∷ [])
    (record { tasks = task Plain ∷ task Plain ∷ task Plain ∷ task Plain ∷ []; edges = edge 0 2 ∷ edge 1 2 ∷ edge 1 3 ∷ []; sems = [] })

-- two tasks on a circle and one behind it, beside a source
abbrev pub behind_a_circle : PlanRows
behind_a_circle = plan_of (codes "p" ∷ codes "m" ∷ codes "n" ∷ codes "h" ∷ [])
    (Read 0 ∷ OnText (Head 1) ∷ OnText (Head 1) ∷ OnText (Keep (codes "a")) ∷ [])
    (record { tasks = task Plain ∷ task Plain ∷ task Plain ∷ task Plain ∷ []; edges = edge 1 2 ∷ edge 2 1 ∷ edge 2 3 ∷ []; sems = [] })

-- a text of more lines than one goes to one task, else to another
abbrev pub chooses_a_branch : PlanRows
chooses_a_branch = plan_of (codes "m" ∷ codes "k" ∷ codes "h" ∷ [])
    (IfMore 1 ∷ OnText (Keep (codes "a")) ∷ OnText (Head 1) ∷ [])
    (record { tasks = task Choice ∷ task Plain ∷ task Plain ∷ []; edges = edge 0 1 ∷ edge 0 2 ∷ []; sems = [] })

-- a task takes a unit that it doesn't put back
abbrev pub takes_and_keeps : PlanRows
takes_and_keeps = plan_of (codes "p" ∷ []) (Read 0 ∷ [])
    (record { tasks = record { shape = Plain; takes = 0 ∷ []; puts = [] } ∷ []; edges = []; sems = 1 ∷ [] })

-- the lines of a text are passed on one by one
abbrev pub spreads_a_text : PlanRows
spreads_a_text = plan_of (codes "p" ∷ codes "s" ∷ []) (Read 0 ∷ Spread 1 Pass ∷ [])
    (record { tasks = task Plain ∷ task Nested ∷ []; edges = edge 0 1 ∷ []; sems = [] })

-- the lines of a text go through a pipe, which numbers them; these rows defer some of them
abbrev pipes_lines : List DeferRow → PlanRows
pipes_lines rows = plan_of (codes "p" ∷ codes "s" ∷ [])
    (Read 0 ∷ Pipe (record { spec = record { lines = 1; serial = true ∷ [] }; ops = Number ∷ []; chunk = 1; defers = rows }) ∷ [])
    (record { tasks = task Plain ∷ task Nested ∷ []; edges = edge 0 1 ∷ []; sems = [] })

abbrev pub pipes_a_text : PlanRows
pipes_a_text = pipes_lines []

-- the first line waits for the second
abbrev pub exchanges_parts : PlanRows
exchanges_parts = pipes_lines (record { token = 0; to = 1 ∷ [] } ∷ [])

-- the first line waits for one that isn't there
abbrev pub waits_for_ever : PlanRows
waits_for_ever = pipes_lines (record { token = 0; to = 7 ∷ [] } ∷ [])

-- a module of two tasks, of which the second does this
abbrev module_of : Op → Shape → GraphRows
module_of op shape = record {
  name = codes "m";
  names = codes "i" ∷ codes "k" ∷ [];
  ops = Input ∷ op ∷ [];
  sem_names = [];
  net = record { tasks = task Plain ∷ task shape ∷ []; edges = edge 0 1 ∷ []; sems = [] };
}

-- a module that keeps the lines with an `a`, and one that runs it, each run on a text
abbrev pub runs_modules : PlanRows
runs_modules = record (plan_of (codes "p" ∷ codes "q" ∷ codes "m" ∷ codes "x" ∷ [])
    (Read 0 ∷ Read 1 ∷ Module 0 ∷ Module 1 ∷ [])
    (record { tasks = task Plain ∷ task Plain ∷ task Nested ∷ task Nested ∷ []; edges = edge 0 2 ∷ edge 1 3 ∷ []; sems = [] })) {
      modules = module_of (OnText (Keep (codes "a"))) Plain ∷ module_of (Module 0) Nested ∷ [];
    }

-- a graph of one task, which runs a module
abbrev runs_alone : GraphRows → PlanRows
runs_alone used = record (plan_of (codes "m" ∷ []) (Module 0 ∷ []) (record { tasks = task Nested ∷ []; edges = []; sems = [] })) { modules = used ∷ [] }

abbrev pub runs_one_module : PlanRows
runs_one_module = runs_alone (module_of (OnText (Head 1)) Plain)

-- a module with a condition
abbrev pub runs_a_choice : PlanRows
runs_a_choice = runs_alone (module_of (IfMore 1) Choice)

-- a job of such a plan, with at most so many starts
abbrev pub worked_job : PlanRows → ℕ → TextJob
worked_job plan limit = Graph (first_work plan (codes "a1\nb\n" ∷ codes "b\na2\n" ∷ []) limit)

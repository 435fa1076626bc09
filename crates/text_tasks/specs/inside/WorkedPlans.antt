-- Small plans, for the tests and the claims.
use Rattle.std.specs.Prelude.{ℕ, false, List, [], ◌∷◌, codes}
use Rattle.task_graph.specs.NetRows.{NetRows}
use Rattle.task_graph.specs.declared.net.Shape.{Shape}
use Rattle.task_graph.specs.declared.net.Shape.TheVariants.{Plain}
use Rattle.task_graph.specs.declared.net.EdgeRow.{EdgeRow}
use Rattle.task_graph.specs.declared.net.TaskRow.{TaskRow}
use Rattle.graph_plans.specs.declared.ops.Op.{Op}
use Rattle.graph_plans.specs.declared.ops.Op.TheVariants.{Input, Read, Text as OnText}
use Rattle.graph_plans.specs.declared.ops.TextOp.TheVariants.{Keep}
use Rattle.graph_plans.specs.Operations.{shape_of}
use Rattle.graph_plans.specs.PlanRows.{GraphRows, PlanRows}
use Rattle.text_tasks.specs.GraphWork.{GraphWork, first_work}

abbrev pub worked_task : Shape → TaskRow
worked_task shape = record { shape = shape; takes = []; puts = [] }

abbrev pub worked_edge : ℕ → EdgeRow
worked_edge from = record { from = from; to = 3; start = false }

abbrev pub worked_net : Shape → NetRows
worked_net shape = record {
  tasks = worked_task Plain ∷ worked_task Plain ∷ worked_task Plain ∷ worked_task shape ∷ [];
  edges = worked_edge 0 ∷ worked_edge 1 ∷ worked_edge 2 ∷ [];
  sems = [];
}

-- three tasks that read the first text lead to one of any operation
abbrev pub worked_plan : Op → PlanRows
worked_plan op = record {
  top = record {
    name = [];
    names = codes "a" ∷ codes "b" ∷ codes "c" ∷ codes "d" ∷ [];
    ops = Read 0 ∷ Read 0 ∷ Read 0 ∷ op ∷ [];
    sem_names = [];
    net = worked_net (shape_of op);
  };
  modules = [];
  texts = codes "e" ∷ codes "f" ∷ [];
}

-- its texts
abbrev pub worked_texts : List (List ℕ)
worked_texts = codes "x\n" ∷ codes "y\nz\n" ∷ []

abbrev pub worked_work : Op → GraphWork
worked_work op = first_work (worked_plan op) worked_texts 10

-- a module that keeps the lines with an `a`, and a plan that has it
abbrev pub worked_module : GraphRows
worked_module = record {
  name = codes "m";
  names = codes "i" ∷ codes "k" ∷ [];
  ops = Input ∷ OnText (Keep (codes "a")) ∷ [];
  sem_names = [];
  net = record { tasks = worked_task Plain ∷ worked_task Plain ∷ []; edges = record { from = 0; to = 1; start = false } ∷ []; sems = [] };
}

abbrev pub worked_modules : Op → PlanRows
worked_modules op = record (worked_plan op) { modules = worked_module ∷ [] }

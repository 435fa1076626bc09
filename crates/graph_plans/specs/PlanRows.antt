-- What a plan consists of, and the rules that each plan keeps which was read.
use Rattle.std.specs.Prelude.{◌≡◌, ◌≢◌, ℕ, ◌+◌, ◌≤◌, false, List, [], ◌∷◌, length, map, sum_by, All, AllPairs, None}
use Rattle.std.specs.Arc.{arc_value}
use Rattle.task_graph.specs.NetRows.{NetRows}
use Rattle.task_graph.specs.Net.{IsNet}
use Rattle.task_graph.specs.declared.net.EdgeRow.{EdgeRow}
use Rattle.task_graph.specs.declared.net.TaskRow.{TaskRow}
use Rattle.graph_plans.specs.declared.ops.Op.{Op}
use Rattle.graph_plans.specs.declared.plans.Graph.{Graph}
use Rattle.graph_plans.specs.declared.plans.Plan.{Plan}
use Rattle.graph_plans.specs.Operations.{HasPipeline, IsOp, shape_of}
use Rattle.graph_plans.specs.ModuleUses.{first_on_cycle, has_chain, modules_run}

-- a graph, apart from where it lies in memory
pub record GraphRows : Type 0 where
  pub name : List ℕ
  pub names : List (List ℕ)
  pub ops : List Op
  pub sem_names : List (List ℕ)
  pub net : NetRows

-- a plan, apart from where it lies in memory
pub record PlanRows : Type 0 where
  pub top : GraphRows
  pub modules : List GraphRows
  pub texts : List (List ℕ)

-- the rows of a graph
abbrev pub graph_rows : Graph → GraphRows
graph_rows g = record { name = g.name; names = g.names; ops = g.ops; sem_names = g.sem_names; net = arc_value g.net }

-- the rows of a plan
abbrev pub plan_rows : Plan → PlanRows
plan_rows p = record { top = graph_rows p.top; modules = map graph_rows p.modules; texts = p.texts }

-- how many tasks a file may have, in its top graph and its modules together
abbrev pub file_task_limit : ℕ
file_task_limit = 10000

-- how many edges
abbrev pub file_edge_limit : ℕ
file_edge_limit = 100000

-- how many semaphores
abbrev pub file_semaphore_limit : ℕ
file_semaphore_limit = 256

-- the greatest maximum of a semaphore
abbrev pub maximum_limit : ℕ
maximum_limit = 1000000

-- how many modules
abbrev pub module_limit : ℕ
module_limit = 64

-- how deep modules may nest
abbrev pub depth_limit : ℕ
depth_limit = 8

-- how many different names of texts
abbrev pub text_count_limit : ℕ
text_count_limit = 1024

-- the name of a text has 1 to 4,096 bytes
pub record IsTextName (text : List ℕ) : Type 0 where
  pub least : 1 ≤ length text
  pub most : length text ≤ 4096

-- no two of the names are the same
abbrev pub AllDiffer : List (List ℕ) → Type 0
AllDiffer names = AllPairs (λ a b. a ≢ b) names

-- ---- the graphs of a plan

abbrev pub graphs_of : PlanRows → List GraphRows
graphs_of plan = plan.top ∷ plan.modules

-- how many tasks there are in the top graph and the modules
abbrev pub task_count : PlanRows → ℕ
task_count plan = sum_by (λ (graph : GraphRows). length graph.net.tasks) (graphs_of plan)

-- how many edges
abbrev pub edge_count : PlanRows → ℕ
edge_count plan = sum_by (λ (graph : GraphRows). length graph.net.edges) (graphs_of plan)

-- how many semaphores
abbrev pub semaphore_count : PlanRows → ℕ
semaphore_count plan = sum_by (λ (graph : GraphRows). length graph.net.sems) (graphs_of plan)

abbrev pub names_of_graphs : List GraphRows → List (List ℕ)
names_of_graphs graphs = map (λ (graph : GraphRows). graph.name) graphs

-- the names of the modules
abbrev pub module_names : PlanRows → List (List ℕ)
module_names plan = names_of_graphs plan.modules

-- the modules that the tasks of each module run
abbrev pub module_uses : PlanRows → List (List ℕ)
module_uses plan = map (λ (graph : GraphRows). modules_run graph.ops) plan.modules

-- ---- the rules

-- the rules of a graph, where so many texts are named and there are so many modules
pub record IsGraph (texts modules : ℕ) (graph : GraphRows) : Type 0 where
  pub net : IsNet graph.net
  pub no_first_tokens : All (λ (row : EdgeRow). row.start ≡ false) graph.net.edges
  -- each task has a name and an operation, which decides on its shape
  pub names : length graph.names ≡ length graph.net.tasks
  pub shapes : map (λ (row : TaskRow). row.shape) graph.net.tasks ≡ map shape_of graph.ops
  pub ops : All (IsOp texts modules) graph.ops
  pub names_differ : AllDiffer graph.names
  -- each semaphore has a name, and a maximum
  pub sem_names : length graph.sem_names ≡ length graph.net.sems
  pub sem_names_differ : AllDiffer graph.sem_names
  pub maxima : All (λ max. max ≤ maximum_limit) graph.net.sems

-- the pipes of each task of a graph are a pipeline
abbrev pub HasPipelines : GraphRows → Type 0
HasPipelines graph = All HasPipeline graph.ops

-- the rules of a plan; no module runs itself, directly or through others, and modules nest at most 8 deep
pub record IsPlan (plan : PlanRows) : Type 0 where
  pub name : plan.top.name ≡ []
  pub graphs : All (IsGraph (length plan.texts) (length plan.modules)) (graphs_of plan)
  pub module_names_differ : AllDiffer (module_names plan)
  pub no_cycle : first_on_cycle (module_uses plan) ≡ None
  pub depth : has_chain (depth_limit + 1) (module_uses plan) (modules_run plan.top.ops) ≡ false
  pub tasks : task_count plan ≤ file_task_limit
  pub edges : edge_count plan ≤ file_edge_limit
  pub sems : semaphore_count plan ≤ file_semaphore_limit
  pub module_count : length plan.modules ≤ module_limit
  pub texts : All IsTextName plan.texts
  pub texts_differ : AllDiffer plan.texts
  pub text_count : length plan.texts ≤ text_count_limit
  pub pipelines : All HasPipelines (graphs_of plan)

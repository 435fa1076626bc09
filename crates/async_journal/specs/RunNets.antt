-- The net of a run of async tasks.
use Rattle.std.specs.Prelude.{ℕ, ◌<◌, ◌≤◌, false, List, [], ◌++◌, length, map, replicate}
use Rattle.std.specs.List.{flat_map, AllByRecursion}
use Rattle.task_graph.specs.NetRows.{NetRows}
use Rattle.task_graph.specs.NetBuilder.{empty_net, edge_limit, task_limit}
use Rattle.task_graph.specs.declared.net.TaskRow.{TaskRow}
use Rattle.task_graph.specs.declared.net.EdgeRow.{EdgeRow}
use Rattle.task_graph.specs.declared.net.Shape.TheVariants.{Plain}
use Rattle.async_tasks.specs.declared.history.AddRow.{AddRow}

-- a plain task without semaphores
abbrev pub plain_task : TaskRow
plain_task = record { shape = Plain; takes = []; puts = [] }

-- the edges from these tasks to another
abbrev pub edges_into : ℕ → List ℕ → List EdgeRow
edges_into task before = map (λ from. record { from = from; to = task; start = false }) before

-- the edges into the task of an add, in the order in which it names the tasks that they leave
abbrev pub edges_of_add : AddRow → List EdgeRow
edges_of_add row = edges_into row.id row.after

-- a net with so many plain tasks more, and with these edges more
abbrev pub with_plain_tasks : NetRows → ℕ → NetRows
with_plain_tasks net count = record { tasks = net.tasks ++ replicate count plain_task; edges = net.edges; sems = net.sems }

abbrev pub with_edge_rows : NetRows → List EdgeRow → NetRows
with_edge_rows net edges = record { tasks = net.tasks; edges = net.edges ++ edges; sems = net.sems }

-- the net of adds: a plain task for each, and the edges of all
abbrev pub run_net : List AddRow → NetRows
run_net adds = with_edge_rows (with_plain_tasks empty_net (length adds)) (flat_map edges_of_add adds)

-- an edge from one of so many tasks to one of them
abbrev pub JoinsTasks : ℕ → EdgeRow → Type 0
JoinsTasks tasks edge = (edge.from < tasks) × (edge.to < tasks)

-- A net can be built of these adds: there are few enough tasks and edges for one, and each edge is from the task of an
-- add to the task of an add.
pub record FitsBuilder (adds : List AddRow) : Type 0 where
  pub tasks : length adds ≤ task_limit
  pub edges : length (flat_map edges_of_add adds) ≤ edge_limit
  pub known : AllByRecursion (JoinsTasks (length adds)) (flat_map edges_of_add adds)

-- Plans of any size, made from a number of layers: ten tasks a layer, of which each behind the first layer takes what
-- two of the layer before hand it; then a task that tallies the last layer, a loop, and a pipeline.
use Rattle.std.specs.Prelude.{ℕ, ◌+◌, ◌-◌, ◌*◌, ◌/◌, ◌%◌, ◌==◌, Bool, true, false, ◌||◌, List, [], ◌∷◌, ◌++◌, map, filter, codes, decimal, if◌then◌else◌}
use Rattle.std.specs.List.{flat_map, range_with_len}
use Rattle.task_graph.specs.declared.net.EdgeRow.{EdgeRow}
use Rattle.task_graph.specs.declared.net.TaskRow.{TaskRow}
use Rattle.graph_plans.specs.declared.ops.Op.{Op}
use Rattle.graph_plans.specs.declared.ops.Op.TheVariants.{Read, Text, IfMore, Pipe}
use Rattle.graph_plans.specs.declared.ops.TextOp.{TextOp}
use Rattle.graph_plans.specs.declared.ops.TextOp.TheVariants.{Pass, Keep, Head, Tail, Skip, Sort, Uniq, Tally}
use Rattle.graph_plans.specs.declared.pipes.LineOp.TheVariants.{Text as LineText, Stamp}
use Rattle.graph_plans.specs.declared.pipes.PipePlan.{PipePlan}
use Rattle.graph_plans.specs.Operations.{shape_of}
use Rattle.graph_plans.specs.PlanRows.{GraphRows, PlanRows}
use Rattle.graph_generator.specs.Draws.{draw}

-- how many layers a plan may have
abbrev pub max_layers : ℕ
max_layers = 900

-- ---- the layers: task t is number t % 10 of layer t / 10

-- The first 200 draws are the text's. Then each task takes two, in the order of tasks; those of the first layer take
-- none.

-- the draw for what a task does
abbrev pub op_draw : ℕ → ℕ → ℕ
op_draw layers t = draw layers (180 + 2 * t)

-- the draw for its second predecessor
abbrev pub edge_draw : ℕ → ℕ → ℕ
edge_draw layers t = draw layers (181 + 2 * t)

-- `g`, the layer, `_` and the number in it
abbrev pub layer_name : ℕ → List ℕ
layer_name t = codes "g" ++ decimal (t / 10) ++ codes "_" ++ decimal (t % 10)

-- in odd layers the first 100 lines or the last 100
abbrev pub odd_op : ℕ → TextOp
odd_op d = if d % 2 == 0 then Head 100 else Tail 100

-- in even layers the lines in order, the lines without repetitions, or those in which a 1 occurs
abbrev pub even_op : ℕ → TextOp
even_op d = if d % 3 == 0 then Sort else if d % 3 == 1 then Uniq else Keep (codes "1")

-- what a task does, by its draw; the first layer reads the text
abbrev pub layer_op : ℕ → ℕ → Op
layer_op t d = if t / 10 == 0 then Read 0 else Text (if t / 10 % 2 == 1 then odd_op d else even_op d)

-- of the layer before a task, the second one that hands it something, by its draw; never the one with its own number
abbrev pub second_before : ℕ → ℕ → ℕ
second_before t d = 10 * (t / 10 - 1) + (t % 10 + (d % 9 + 1)) % 10

-- whether a task hands something to this one of the next layer, by that one's draw: to the one with its own number, and
-- to each of which it is the second predecessor
abbrev pub leads_to : ℕ → ℕ → ℕ → Bool
leads_to t next d = (next == t + 10) || (second_before next d == t)

-- the tasks of the layer behind that of a task
unfoldable pub next_layer : ℕ → List ℕ
next_layer t = range_with_len (10 * (t / 10 + 1)) 10

-- of these, those to which it hands something
abbrev pub tasks_behind : ℕ → ℕ → List ℕ
tasks_behind layers t = filter (λ next. leads_to t next (edge_draw layers next)) (next_layer t)

-- the successors of a task: some of the next layer, or, in the last one, the tally
abbrev pub successors : ℕ → ℕ → List ℕ
successors layers t = if t / 10 + 1 == layers then 10 * layers ∷ [] else tasks_behind layers t

-- ---- behind them

-- 200 tokens over four lines, of which one waits for another and that for a third
abbrev pub generated_pipeline : PipePlan
generated_pipeline = record {
  spec = record { lines = 4; serial = true ∷ false ∷ true ∷ [] };
  ops = LineText Pass ∷ LineText (Keep (codes "w")) ∷ Stamp ∷ [];
  chunk = 1;
  defers = record { token = 1; to = 3 ∷ [] } ∷ record { token = 2; to = 1 ∷ [] } ∷ [];
}

-- the names of the seven tasks; the first has number 10 * layers
abbrev pub last_names : List (List ℕ)
last_names = codes "sum" ∷ codes "init" ∷ codes "body" ∷ codes "more" ∷ codes "done" ∷ codes "pr" ∷ codes "pp" ∷ []

-- A tally; a loop that cuts a text to ten lines, one by one; a pipeline.
abbrev pub last_ops : List Op
last_ops = Text Tally ∷ Read 0 ∷ Text (Skip 1) ∷ IfMore 10 ∷ Text Pass ∷ Read 0 ∷ Pipe generated_pipeline ∷ []

-- an edge between tasks of these numbers
abbrev pub edge : ℕ → ℕ → EdgeRow
edge from to = record { from = from; to = to; start = false }

-- the edges of the loop and of the pipeline, where the tally has this number
abbrev pub last_edges : ℕ → List EdgeRow
last_edges sum = edge (sum + 1) (sum + 2) ∷ edge (sum + 2) (sum + 3) ∷ edge (sum + 3) (sum + 2) ∷ edge (sum + 3) (sum + 4) ∷ edge (sum + 5) (sum + 6) ∷ []

-- ---- all together

-- the numbers of the tasks of all layers
abbrev pub layer_tasks : ℕ → List ℕ
layer_tasks layers = range_with_len 0 (10 * layers)

-- the names of the tasks
abbrev pub generated_names : ℕ → List (List ℕ)
generated_names layers = map layer_name (layer_tasks layers) ++ last_names

-- what they do
abbrev pub generated_ops : ℕ → List Op
generated_ops layers = map (λ t. layer_op t (op_draw layers t)) (layer_tasks layers) ++ last_ops

-- the edges out of a task of a layer
abbrev pub layer_edges : ℕ → ℕ → List EdgeRow
layer_edges layers t = map (edge t) (successors layers t)

-- all edges, in the order of the tasks that they leave
abbrev pub generated_edges : ℕ → List EdgeRow
generated_edges layers = flat_map (layer_edges layers) (layer_tasks layers) ++ last_edges (10 * layers)

-- the row of a task in the net; none takes or puts a semaphore
abbrev pub generated_row : Op → TaskRow
generated_row op = record { shape = shape_of op; takes = []; puts = [] }

-- the graph of so many layers
abbrev pub generated_graph : ℕ → GraphRows
generated_graph layers = record {
  name = [];
  names = generated_names layers;
  ops = generated_ops layers;
  sem_names = [];
  net = record { tasks = map generated_row (generated_ops layers); edges = generated_edges layers; sems = [] };
}

-- the plan of so many layers
abbrev pub generated_plan : ℕ → PlanRows
generated_plan layers = record { top = generated_graph layers; modules = []; texts = codes "gen.txt" ∷ [] }

-- Generated plans keep the rules of plans.
use Rattle.std.proofs.Common.{◌≡◌, ℕ, zero, suc, ◌+◌, ◌*◌, ◌<◌, ◌≤◌, Bool, true, false, eqb, List, [], ◌∷◌, length, map, Option, Some, slice_get, codes, refl, ap, ◌∙◌, arith}
use Rattle.std.specs.Option.{option_map_or}
use Rattle.std.specs.List.{IsDistinct}
use Rattle.std.proofs.lemmas.Bool.{eqb-false, false≢true}
use Rattle.std.proofs.lemmas.List.{length-append, length-map}
use Rattle.std.proofs.lemmas.List.Elements.{All-from_recursion, All-map, All-nil}
use Rattle.std.proofs.lemmas.List.FromFn.{length-map-range_with_len}
use Rattle.std.proofs.lemmas.Map.Keys.{apart_from_distinct}
use Rattle.std.proofs.lemmas.Option.{none-some}
use Rattle.task_graph.specs.NetRows.{NetRows}
use Rattle.task_graph.specs.Net.{AreSemaphoresOf, IsEdgeOf, IsNet, IsTaskOf}
use Rattle.task_graph.specs.declared.net.EdgeRow.{EdgeRow}
use Rattle.task_graph.specs.declared.net.TaskRow.{TaskRow}
use Rattle.pipe_lines.specs.DeferRows.{AreDeferRows, IsDeferRow}
use Rattle.pipe_lines.specs.declared.deferral.DeferRow.{DeferRow}
use Rattle.graph_plans.specs.declared.ops.Op.{Op}
use Rattle.graph_plans.specs.declared.plans.Plan.{Plan}
use Rattle.graph_plans.specs.declared.pipes.LineOp.{LineOp}
use Rattle.graph_plans.specs.declared.pipes.LineOp.TheVariants.{Text as LineText, Number, Stamp}
use Rattle.graph_plans.specs.Operations.{HasPipeline, IsLineOp, IsOp, IsPipePlan, shape_of}
use Rattle.graph_plans.specs.PlanRows.{AllDiffer, HasPipelines, IsGraph, IsPlan, IsTextName, graph_rows, plan_rows}
use Rattle.graph_generator.specs.GeneratedPlan.{generated_graph, generated_ops, generated_pipeline, generated_plan, generated_row, last_names, layer_name, layer_tasks, max_layers}
use Rattle.graph_generator.proofs.EdgeLemmas.{edges-all, edges-count}
use Rattle.graph_generator.proofs.NameLemmas.{generated-differ}
use Rattle.graph_generator.proofs.OpLemmas.{HoldsOfOps, ops-all, ops-count, runs-no-module}

-- ---- the net

none-of : (net : NetRows) → AreSemaphoresOf net []
none-of net = record { rising = λ k within. absurd (omega (arith, within)); in_range = All-nil (λ s. s < length net.sems) }

row-fits : (net : NetRows) (op : Op) → IsTaskOf net (generated_row op)
row-fits net op = record { takes = none-of net; puts = none-of net }

pub rows-count : (layers : ℕ) → length (map generated_row (generated_ops layers)) ≡ 10 * layers + 7
rows-count layers = length-map (generated_ops layers) generated_row ∙ ops-count layers

net-keeps : (layers : ℕ) → layers ≤ max_layers → IsNet (generated_graph layers).net
net-keeps layers few =
    let net = (generated_graph layers).net in
    let count = rows-count layers in
    record {
      tasks = All-map (IsTaskOf net) generated_row (generated_ops layers) (λ i d within. row-fits net _);
      edges = edges-all (IsEdgeOf net) layers (λ from_ to_ in_from in_to. record {
        from_in_range = omega (arith, count, in_from);
        to_in_range = omega (arith, count, in_to);
        starts_strong = λ starts. absurd (false≢true starts);
      });
      sems = All-nil (λ max. 1 ≤ max);
      task_count = omega (arith, count, few);
      edge_count = omega (arith, edges-count layers few);
      sem_count = omega arith;
    }

-- ---- the operations

abbrev is_stamp : LineOp → Bool
is_stamp (LineText op) = false
is_stamp Number = false
is_stamp Stamp = true

-- the one pipe that writes places is serial
stamp-serial : (p : ℕ) → slice_get generated_pipeline.ops p ≡ Some Stamp → slice_get generated_pipeline.spec.serial p ≡ Some true
stamp-serial zero is = refl
stamp-serial (suc zero) is = absurd (false≢true (ap (λ (op : Option LineOp). option_map_or is_stamp op false) is))
stamp-serial (suc (suc zero)) is = refl
stamp-serial (suc (suc (suc p))) is = absurd (none-some Stamp is)

-- each row names one other token
row-keeps : (token to : ℕ) → token < 10 → to < 10 → IsDeferRow (record { token = token; to = to ∷ [] })
row-keeps token to few_token few_to = record {
  may_come = omega (arith, few_token);
  some = omega arith;
  few = omega arith;
  in_range = All-from_recursion (λ target. target ≤ 1000000) (to ∷ []) (omega (arith, few_to), tt);
}

abbrev same_token : DeferRow → DeferRow → Bool
same_token a b = eqb a.token b.token

tokens-distinct : IsDistinct same_token generated_pipeline.defers
unfolding IsDistinct
tokens-distinct = ((refl, tt), (tt, tt))

defers-keep : AreDeferRows generated_pipeline.defers
defers-keep = record {
  few = omega arith;
  each = All-from_recursion IsDeferRow generated_pipeline.defers (row-keeps 1 3 (omega arith) (omega arith), (row-keeps 2 1 (omega arith) (omega arith), tt));
  apart = λ i j d before within same. eqb-false _ _ (apart_from_distinct same_token generated_pipeline.defers i j d tokens-distinct before within) same;
}

pipe-keeps : IsPipePlan generated_pipeline
pipe-keeps = record {
  op_count = refl;
  ops = All-from_recursion IsLineOp generated_pipeline.ops (tt, (omega arith, (tt, tt)));
  stamps = stamp-serial;
  chunk = record { least = omega arith; most = omega arith };
  defers = defers-keep;
}

op-rules : HoldsOfOps (IsOp 1 0)
op-rules = record { reads = omega arith; head = omega arith; tail = omega arith; sort = tt; uniq = tt; keep = omega arith; tally = tt; skip = omega arith; if_more = omega arith; pass = tt; pipe = pipe-keeps }

pipelines-rules : HoldsOfOps HasPipeline
pipelines-rules = record {
  reads = tt;
  head = tt;
  tail = tt;
  sort = tt;
  uniq = tt;
  keep = tt;
  tally = tt;
  skip = tt;
  if_more = tt;
  pass = tt;
  pipe = record { some_lines = omega arith; first_serial = refl; few_lines = omega arith; few_pipes = omega arith };
}

-- ---- the plan

shapes-are : (ops : List Op) → map (λ (row : TaskRow). row.shape) (map generated_row ops) ≡ map shape_of ops
shapes-are [] = refl
shapes-are (op ∷ ops) = ap (λ shapes. shape_of op ∷ shapes) (shapes-are ops)

none-differ : AllDiffer []
none-differ i j d before within = absurd (omega (arith, within))

graph-keeps : (layers : ℕ) → layers ≤ max_layers → IsGraph 1 0 (generated_graph layers)
graph-keeps layers few =
    let names = map layer_name (layer_tasks layers) in
    record {
      net = net-keeps layers few;
      no_first_tokens = edges-all (λ (row : EdgeRow). row.start ≡ false) layers (λ from_ to_ in_from in_to. refl);
      names = omega (arith, rows-count layers, length-append names last_names, length-map-range_with_len layer_name 0 (10 * layers));
      shapes = shapes-are (generated_ops layers);
      ops = ops-all (IsOp 1 0) layers op-rules;
      names_differ = generated-differ layers few;
      sem_names = refl;
      sem_names_differ = none-differ;
      maxima = All-nil (λ max. max ≤ 1000000);
    }

pub plan-keeps : (layers : ℕ) → layers ≤ max_layers → IsPlan (generated_plan layers)
plan-keeps layers few = record {
  name = refl;
  graphs = All-from_recursion (IsGraph 1 0) (generated_graph layers ∷ []) (graph-keeps layers few, tt);
  module_names_differ = none-differ;
  no_cycle = refl;
  depth = rw (runs-no-module layers) refl;
  tasks = omega (arith, rows-count layers, few);
  edges = omega (arith, edges-count layers few);
  sems = omega arith;
  module_count = omega arith;
  texts = All-from_recursion IsTextName (codes "gen.txt" ∷ []) (record { least = omega arith; most = omega arith }, tt);
  texts_differ = λ i j d before within. absurd (omega (arith, before, within));
  text_count = omega arith;
  pipelines = All-from_recursion HasPipelines (generated_graph layers ∷ []) (ops-all HasPipeline layers pipelines-rules, tt);
}

pub plan-made : (layers : ℕ) (plan : Plan) → graph_rows plan.top ≡ generated_graph layers → plan.modules ≡ [] → plan.texts ≡ codes "gen.txt" ∷ [] → plan_rows plan ≡ generated_plan layers
plan-made layers plan top modules texts = rw (top, modules, texts) refl

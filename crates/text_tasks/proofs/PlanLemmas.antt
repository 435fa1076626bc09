-- What holds of plans, and that the small one keeps their rules.
use Rattle.std.proofs.Common.{◌≡◌, ℕ, suc, ◌<◌, false, List, [], ◌∷◌, length, All, Option, Some, None, refl, arith}
use Rattle.std.specs.Prelude.{IfSome}
use Rattle.std.proofs.lemmas.List.Elements.{All-from_recursion}
use Rattle.std.proofs.lemmas.Map.Made.{AllPairs-from_IsDistinct}
use Rattle.std.proofs.lemmas.Slice.Eq.{bytes_eq-Decides}
use Rattle.std.specs.List.{IsDistinct}
use Rattle.std.specs.Str.{bytes_eq}
use Rattle.task_graph.specs.NetRows.{NetRows}
use Rattle.task_graph.specs.Net.{IsNet, IsTaskOf, IsEdgeOf, AreSemaphoresOf}
use Rattle.task_graph.specs.declared.net.Shape.{Shape}
use Rattle.task_graph.specs.declared.net.Shape.TheVariants.{Plain}
use Rattle.task_graph.specs.declared.net.EdgeRow.{EdgeRow}
use Rattle.journal_rules.specs.declared.entry.Cause.TheVariants.{Strong}
use Rattle.run_frame.specs.Meaning.{IsRelease}
use Rattle.graph_plans.specs.declared.ops.Op.{Op}
use Rattle.graph_plans.specs.declared.ops.Op.TheVariants.{Input, Read, Text, Match, Back, IfMore, IfHas, Route, Spread, Module, Pipe}
use Rattle.graph_plans.specs.ModuleUses.{has_chain, modules_run}
use Rattle.graph_plans.specs.Operations.{HasPipeline, IsOp, shape_of}
use Rattle.graph_plans.specs.PlanRows.{HasPipelines, IsGraph, IsPlan, IsTextName, AllDiffer}
use Rattle.text_tasks.specs.GraphWork.{GraphWork, IsWork, graph_in, graph_of}
use Rattle.text_tasks.specs.ValueTexts.{IsValueText}
use Rattle.text_tasks.specs.inside.WorkedPlans.{worked_task, worked_edge, worked_net, worked_plan, worked_texts, worked_work}

no_semaphores : (net : NetRows) → AreSemaphoresOf net []
no_semaphores net = record { rising = λ k below. absurd (omega (arith, below)); in_range = λ k d below. absurd (omega (arith, below)) }

task_of : (net : NetRows) (shape : Shape) → IsTaskOf net (worked_task shape)
task_of net shape = record { takes = no_semaphores net; puts = no_semaphores net }

edge_of : (shape : Shape) (from : ℕ) → from < 4 → IsEdgeOf (worked_net shape) (worked_edge from)
edge_of shape from below = record { from_in_range = below; to_in_range = omega arith; starts_strong = λ start. absurd (cc) }

net_is : (shape : Shape) → IsNet (worked_net shape)
net_is shape = record {
  tasks = All-from_recursion (IsTaskOf (worked_net shape)) (worked_net shape).tasks (task_of (worked_net shape) Plain, (task_of (worked_net shape) Plain, (task_of (worked_net shape) Plain, (task_of (worked_net shape) shape, tt))));
  edges = All-from_recursion (IsEdgeOf (worked_net shape)) (worked_net shape).edges (edge_of shape 0 (omega arith), (edge_of shape 1 (omega arith), (edge_of shape 2 (omega arith), tt)));
  sems = λ k d below. absurd (omega (arith, below));
  task_count = omega arith;
  edge_count = omega arith;
  sem_count = omega arith;
}

apart : (names : List (List ℕ)) → IsDistinct bytes_eq names → AllDiffer names
apart names distinct = AllPairs-from_IsDistinct {eq = bytes_eq} bytes_eq-Decides names distinct

text_name : (letter : ℕ) → IsTextName (letter ∷ [])
text_name letter = record { least = omega arith; most = omega arith }

worked_is_graph : (op : Op) → IsOp 2 0 op → IsGraph 2 0 (worked_plan op).top
unfolding IsDistinct
worked_is_graph op fits = record {
  net = net_is (shape_of op);
  no_first_tokens = All-from_recursion (λ (row : EdgeRow). row.start ≡ false) (worked_net (shape_of op)).edges (refl, (refl, (refl, tt)));
  names = refl;
  shapes = refl;
  ops = All-from_recursion (IsOp 2 0) (worked_plan op).top.ops (omega arith, (omega arith, (omega arith, (fits, tt))));
  names_differ = apart (worked_plan op).top.names (((refl, (refl, (refl, tt))), ((refl, (refl, tt)), ((refl, tt), (tt, tt)))));
  sem_names = refl;
  sem_names_differ = apart [] tt;
  maxima = λ k d below. absurd (omega (arith, below));
}

worked_pipelines : (op : Op) → HasPipeline op → HasPipelines (worked_plan op).top
worked_pipelines op pipes = All-from_recursion HasPipeline (worked_plan op).top.ops (tt, (tt, (tt, (pipes, tt))))

-- no task runs a module, where the operation doesn't
pub worked_is_plan : (op : Op) → IsOp 2 0 op → HasPipeline op → IsPlan (worked_plan op)
unfolding IsDistinct
worked_is_plan op fits pipes = record {
  name = refl;
  graphs = All-from_recursion (IsGraph 2 0) ((worked_plan op).top ∷ []) (worked_is_graph op fits, tt);
  module_names_differ = apart [] tt;
  no_cycle = refl;
  depth = no_chain op fits;
  tasks = omega arith;
  edges = omega arith;
  sems = omega arith;
  module_count = omega arith;
  texts = All-from_recursion IsTextName (worked_plan op).texts (text_name 101, (text_name 102, tt));
  texts_differ = apart (worked_plan op).texts ((refl, tt), (tt, tt));
  text_count = omega arith;
  pipelines = All-from_recursion HasPipelines ((worked_plan op).top ∷ []) (worked_pipelines op pipes, tt);
}
  where
    no_chain : (op : Op) → IsOp 2 0 op → has_chain 9 [] (modules_run (Read 0 ∷ Read 0 ∷ Read 0 ∷ op ∷ [])) ≡ false
    no_chain Input fits = refl
    no_chain (Read number) fits = refl
    no_chain (Text op) fits = refl
    no_chain Match fits = refl
    no_chain Back fits = refl
    no_chain (IfMore n) fits = refl
    no_chain (IfHas word) fits = refl
    no_chain (Route words) fits = refl
    no_chain (Spread n each) fits = refl
    no_chain (Module m) fits = absurd (omega (arith, fits))
    no_chain (Pipe plan) fits = refl

value_texts : All IsValueText worked_texts
value_texts = All-from_recursion IsValueText worked_texts (record { normal = refl; short = omega arith }, (record { normal = refl; short = omega arith }, tt))

pub worked_is_work : (op : Op) → IsOp 2 0 op → HasPipeline op → IsWork (worked_work op)
worked_is_work op fits pipes = record {
  plan = worked_is_plan op fits pipes;
  text_count = refl;
  texts = value_texts;
  input = record { normal = refl; short = omega arith };
  in_plan = tt;
  starts = omega arith;
}

-- a start of the last task finds three parts
pub worked_release : (shape : Shape) → IsRelease (worked_net shape) 3 3
worked_release shape = record { in_range = omega arith; cause = Strong; can_release = λ none. absurd (cc); size = refl }

-- the pipes of each task of the graph that is run are a pipeline
pub pipelines_of_work : (work : GraphWork) → IsWork work → HasPipelines (graph_of work)
pipelines_of_work work keeps = of_graph work.«module» keeps.in_plan
  where
    of_graph : (g : Option ℕ) → IfSome g (λ m. m < length work.plan.modules) → HasPipelines (graph_in work.plan g)
    of_graph None there = keeps.plan.pipelines 0 work.plan.top (omega arith)
    of_graph (Some m) there = keeps.plan.pipelines (suc m) work.plan.top (omega (arith, there))

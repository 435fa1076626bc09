-- Graphs without a source, while a loop goes over the modules.
use Rattle.std.proofs.Common.{◌≡◌, ℕ, ◌+◌, ◌<◌, length, map, get_or, below_more}
use Rattle.std.proofs.lemmas.List.{get_or-map}
use Rattle.task_graph.specs.Sources.{HasNoSource}
use Rattle.graph_plans.specs.declared.plans.Graph.{Graph}
use Rattle.graph_plans.specs.declared.plans.Plan.{Plan}
use Rattle.graph_plans.specs.PlanRows.{GraphRows, graph_rows, plan_rows}
use Rattle.graph_plans.specs.Sources.{SourcesBefore}

-- one module more has a source or no task
pub SourcesBefore-more : (plan : Plan) (m : ℕ) (graph : Graph) → m < length plan.modules → graph ≡ get_or plan.modules m graph
    → SourcesBefore (plan_rows plan) m → ¬ HasNoSource (graph_rows graph).net → SourcesBefore (plan_rows plan) (m + 1)
SourcesBefore-more plan m graph within is so_far here = record {
  top = so_far.top;
  modules = λ k d below. below_more (λ k. (d : GraphRows) → ¬ HasNoSource (get_or (map graph_rows plan.modules) k d).net) m (λ k below d. so_far.modules k d below)
      (λ d. rw (get_or-map graph_rows plan.modules m graph d within, ← is) here) k below d;
}

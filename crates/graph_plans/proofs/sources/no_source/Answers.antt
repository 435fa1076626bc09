use Rattle.std.proofs.Common.{rules, ◌≡◌, true, false, sym, subst}
use Rattle.task_graph.specs.Sources.{HasNoSource}
use Rattle.graph_plans.specs.PlanRows.{graph_rows}
use Rattle.graph_plans.proofs.SourceLemmas.{SourcesBefore-more}
use Rattle.graph_plans.proofs.sources.no_source.Goals as goal

pub loop-module-preserved : goal.loop-module-preserved
loop-module-preserved c =
    let same : c.deref-in-loop-module.result.now ≡ (graph_rows c.graph-item.result).net = search rules in
    let has_one : ¬ HasNoSource (graph_rows c.graph-item.result).net = λ is. absurd (let never : false ≡ true = c.if-has_no_source-2.ensures.1 (subst HasNoSource (sym same) is) in cc) in
    SourcesBefore-more c.args.plan.now c.loop-module.module c.graph-item.result (rw c.as_slice-graph-items.ensures at c.loop-module-test.true)
    (rw c.as_slice-graph-items.ensures at c.graph-item.is) c.loop-module.invariant has_one

use Rattle.std.proofs.Common.{[], ◌∷◌, map, All, sym, subst, ap, ◌∙◌}
use Rattle.std.proofs.lemmas.List.{map-append, take_all}
use Rattle.serde_json.specs.View.{view}
use Rattle.graph_plans.specs.PlanRows.{graph_rows, module_names, names_of_graphs, plan_rows}
use Rattle.graph_writer.specs.WrittenPlan.{module_data}
use Rattle.graph_writer.specs.inside.Writer.{IsString, IsWritableGraph}
use Rattle.graph_writer.proofs.WritingLemmas.{module-named, module-writable, modules-more}
use Rattle.graph_writer.proofs.writer.module_values.Goals as goal

pub module_value-requires-clause-name : goal.module_value-requires-clause-name
module_value-requires-clause-name c =
    module-named c.as_slice-graphs.result.now c.loop-graph.graph-index c.graph-item.result c.loop-graph-test.true c.graph-item.is
    (subst (λ graphs. All IsString (names_of_graphs (map graph_rows graphs))) (sym c.as_slice-graphs.ensures) c.requires.names)

pub module_value-requires-clause-graph : goal.module_value-requires-clause-graph
module_value-requires-clause-graph c =
    let plan = plan_rows c.args.plan.now in
    module-writable plan.texts (module_names plan) c.as_slice-graphs.result.now c.loop-graph.graph-index c.graph-item.result c.loop-graph-test.true c.graph-item.is
    (subst (λ graphs. All (IsWritableGraph plan.texts (module_names plan)) (map graph_rows graphs)) (sym c.as_slice-graphs.ensures) c.requires.modules)

pub loop-graph-preserved : goal.loop-graph-preserved
loop-graph-preserved c =
    let plan = plan_rows c.args.plan.now in
    let old = c.loop-graph.values.items in
    ap (map view) c.in_ok-push.ensures.items ∙ map-append view old (c.in_ok-module_value.field-0 ∷ [])
    ∙ modules-more plan c.as_slice-graphs.result.now c.loop-graph.graph-index c.graph-item.result (map view old) (view c.in_ok-module_value.field-0) c.loop-graph-test.true c.graph-item.is c.in_ok-module_value.ensures c.loop-graph.invariant

pub returns : goal.returns
returns c =
    let plan = plan_rows c.args.plan.now in
    c.loop-graph.invariant
    ∙ ap (λ graphs. map (module_data plan) (map graph_rows graphs)) (take_all c.loop-graph.graph-index c.as_slice-graphs.result.now c.loop-graph-test.false ∙ c.as_slice-graphs.ensures)

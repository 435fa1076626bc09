use Rattle.std.proofs.Common.{[], ◌∷◌, map, ap, ◌∙◌}
use Rattle.std.proofs.lemmas.List.{map-append}
use Rattle.serde_json.specs.View.{view}
use Rattle.graph_plans.specs.PlanRows.{graph_rows, module_names, plan_rows}
use Rattle.graph_writer.proofs.WritingLemmas.{tasks-more}
use Rattle.graph_writer.proofs.writer.task_values.Goals as goal

pub loop-task-preserved : goal.loop-task-preserved
loop-task-preserved c =
    let plan = plan_rows c.args.plan.now in
    let old = c.loop-task.values.items in
    ap (map view) c.in_ok-push.ensures.items ∙ map-append view old (c.in_ok-task_value.field-0 ∷ [])
    ∙ tasks-more plan.texts (module_names plan) (graph_rows c.args.graph.now) c.loop-task.task c.op-item.result (map view old) (view c.in_ok-task_value.field-0) (rw c.as_slice-op-items.ensures at c.loop-task-test.true) c.requires.op_count c.requires.names.task_count
    (rw c.as_slice-op-items.ensures at c.op-item.is) c.in_ok-task_value.ensures c.loop-task.invariant

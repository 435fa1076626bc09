use Rattle.std.proofs.Common.{◌≡◌, map, take}
use Rattle.serde_json.specs.View.{view}
use Rattle.graph_plans.specs.PlanRows.{graph_rows, module_names, plan_rows}
use Rattle.graph_writer.specs.WrittenPlan.{tasks_from}
use Rattle.graph_writer.proofs.writer.task_values.Given as goal

abbrev pub invariant-loop-task : goal.invariant-loop-task
invariant-loop-task l = map view l.values.items ≡ tasks_from l.plan.texts (module_names (plan_rows l.plan)) (graph_rows l.graph) 0 (take l.task l.graph.names) (take l.task l.graph.ops) (take l.task (graph_rows l.graph).net.tasks)

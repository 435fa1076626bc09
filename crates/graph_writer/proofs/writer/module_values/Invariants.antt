use Rattle.std.proofs.Common.{◌≡◌, map, take}
use Rattle.serde_json.specs.View.{view}
use Rattle.graph_plans.specs.PlanRows.{graph_rows, plan_rows}
use Rattle.graph_writer.specs.WrittenPlan.{module_data}
use Rattle.graph_writer.proofs.writer.module_values.Given as goal

abbrev pub invariant-loop-graph : goal.invariant-loop-graph
invariant-loop-graph l = map view l.values.items ≡ map (module_data (plan_rows l.plan)) (map graph_rows (take l.graph-index l.graphs))

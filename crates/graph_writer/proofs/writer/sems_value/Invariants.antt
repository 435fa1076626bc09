use Rattle.std.proofs.Common.{◌≡◌, map, take}
use Rattle.serde_json.specs.Data.{string}
use Rattle.serde_json.specs.View.{view}
use Rattle.graph_plans.specs.PlanRows.{graph_rows}
use Rattle.graph_writer.specs.WrittenPlan.{sems_named}
use Rattle.graph_writer.proofs.writer.sems_value.Given as goal

abbrev pub invariant-loop-sem : goal.invariant-loop-sem
invariant-loop-sem l = map view l.values.items ≡ map string (sems_named (graph_rows l.graph) (take l.sem-index l.sems))

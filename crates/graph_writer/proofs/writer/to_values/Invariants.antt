use Rattle.std.proofs.Common.{◌≡◌, map, take}
use Rattle.serde_json.specs.Data.{string}
use Rattle.serde_json.specs.View.{view}
use Rattle.graph_plans.specs.PlanRows.{graph_rows}
use Rattle.graph_writer.specs.inside.Writer.{end_name}
use Rattle.graph_writer.proofs.writer.to_values.Given as goal

abbrev pub invariant-loop-edge : goal.invariant-loop-edge
invariant-loop-edge l = map view l.values.items ≡ map string (map (end_name (graph_rows l.graph)) (take l.edge-index l.edge-items))

use Rattle.std.proofs.Common.{◌≡◌, map, take}
use Rattle.serde_json.specs.View.{view}
use Rattle.graph_writer.specs.WrittenPlan.{defer_data}
use Rattle.graph_writer.proofs.pipe_writer.defer_values.Given as goal

abbrev pub invariant-loop-row : goal.invariant-loop-row
invariant-loop-row l = map view l.values.items ≡ map defer_data (take l.row-index l.rows)

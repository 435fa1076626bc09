use Rattle.std.proofs.Common.{◌≡◌, map, take}
use Rattle.serde_json.specs.View.{view}
use Rattle.graph_writer.specs.WrittenPlan.{lines_data}
use Rattle.graph_writer.proofs.pipe_writer.number_values.Given as goal

abbrev pub invariant-loop-number : goal.invariant-loop-number
invariant-loop-number l = map view l.values.items ≡ map lines_data (take l.number-index l.numbers)

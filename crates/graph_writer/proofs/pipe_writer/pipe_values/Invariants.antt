use Rattle.std.proofs.Common.{◌≡◌, map, take}
use Rattle.serde_json.specs.View.{view}
use Rattle.graph_writer.specs.WrittenPlan.{pipes_from}
use Rattle.graph_writer.proofs.pipe_writer.pipe_values.Given as goal

abbrev pub invariant-loop-pipe : goal.invariant-loop-pipe
invariant-loop-pipe l = map view l.values.items ≡ pipes_from (take l.pipe l.serial) (take l.pipe l.ops)

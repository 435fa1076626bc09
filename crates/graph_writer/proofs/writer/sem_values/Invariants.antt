use Rattle.std.proofs.Common.{◌≡◌, map, take}
use Rattle.serde_json.specs.View.{view}
use Rattle.graph_writer.specs.WrittenPlan.{sems_from}
use Rattle.graph_writer.proofs.writer.sem_values.Given as goal

abbrev pub invariant-loop-sem : goal.invariant-loop-sem
invariant-loop-sem l = map view l.values.items ≡ sems_from (take l.sem l.names) (take l.sem l.maxima)

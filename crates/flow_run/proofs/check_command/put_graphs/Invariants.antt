use Rattle.std.proofs.Common.{take}
use Rattle.std.specs.List.{flat_map}
use Rattle.outside_io.specs.Sink.{Accepts}
use Rattle.flow_run.specs.Checks.{graph_lines}
use Rattle.flow_run.proofs.check_command.put_graphs.Given as goal

abbrev pub invariant-loop-on : goal.invariant-loop-on
invariant-loop-on g l = Accepts (g.S.Sink.state l.fn.out) (g.S.Sink.state l.out) (flat_map graph_lines (take l.on-index l.found))

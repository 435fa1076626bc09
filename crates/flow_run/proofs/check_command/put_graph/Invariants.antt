use Rattle.std.proofs.Common.{take}
use Rattle.std.specs.List.{flat_map}
use Rattle.outside_io.specs.Sink.{Accepts}
use Rattle.flow_run.specs.Checks.{finding_line}
use Rattle.flow_run.proofs.check_command.put_graph.Given as goal

abbrev pub invariant-loop-finding : goal.invariant-loop-finding
invariant-loop-finding g l = Accepts (g.S.Sink.state l.fn.out) (g.S.Sink.state l.out) (flat_map (finding_line l.on) (take l.finding-index l.findings))

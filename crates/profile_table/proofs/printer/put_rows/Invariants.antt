use Rattle.std.proofs.Common.{take}
use Rattle.std.specs.List.{flat_map, zip}
use Rattle.outside_io.specs.Sink.{Accepts}
use Rattle.profile_table.specs.ProfileText.{row_line}
use Rattle.profile_table.proofs.printer.put_rows.Given as goal

abbrev pub invariant-loop-task : goal.invariant-loop-task
invariant-loop-task g l = Accepts (g.S.Sink.state l.fn.out) (g.S.Sink.state l.out) (flat_map row_line (take l.task (zip l.names l.rows)))

use Rattle.std.proofs.Common.{◌≡◌, length, drop}
use Rattle.pipe_lines.specs.PipeNet.{edges_from}
use Rattle.pipe_lines.specs.inside.Building.{with_edges}
use Rattle.pipe_lines.proofs.net.add_line.Given as goal

abbrev pub invariant-loop-is_serial : goal.invariant-loop-is_serial
invariant-loop-is_serial l =
    (l.pipe ≡ l.is_serial-index)
    × (with_edges l.builder (edges_from l.lines (length l.serial) l.line l.is_serial-index (drop l.is_serial-index l.serial))
    ≡ with_edges l.initial.builder (edges_from l.lines (length l.serial) l.line 0 l.serial))

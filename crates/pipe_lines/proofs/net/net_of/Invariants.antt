use Rattle.std.proofs.Common.{◌≡◌, ◌-◌, ◌*◌, length}
use Rattle.pipe_lines.specs.PipeNet.{line_edges, pipe_edges}
use Rattle.pipe_lines.specs.inside.Building.{cells_net, with_edges}
use Rattle.pipe_lines.proofs.net.net_of.Given as goal

abbrev pub invariant-loop-line : goal.invariant-loop-line
invariant-loop-line l =
    with_edges l.builder (line_edges l.lines l.serial l.line (l.lines - l.line))
    ≡ with_edges (cells_net (l.lines * length l.serial)) (pipe_edges l.lines l.serial)

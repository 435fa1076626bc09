use Rattle.std.proofs.Common.{◌≡◌}
use Rattle.pipe_lines.specs.inside.Building.{cells_net}
use Rattle.pipe_lines.proofs.net.add_cells.Given as goal

abbrev pub invariant-loop-cell : goal.invariant-loop-cell
invariant-loop-cell l = l.builder ≡ cells_net l._cell

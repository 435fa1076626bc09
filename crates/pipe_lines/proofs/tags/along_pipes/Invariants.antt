use Rattle.std.proofs.Common.{◌≡◌, ◌++◌, ◌-◌}
use Rattle.pipe_lines.specs.inside.Building.{all_tags}
use Rattle.pipe_lines.proofs.tags.along_pipes.Given as goal

abbrev pub invariant-loop-line : goal.invariant-loop-line
invariant-loop-line l = l.tags ++ all_tags l.spec.serial (l.spec.lines - l._line) ≡ all_tags l.spec.serial l.spec.lines

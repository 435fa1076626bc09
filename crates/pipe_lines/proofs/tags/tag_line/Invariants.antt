use Rattle.std.proofs.Common.{◌≡◌, ◌++◌, drop}
use Rattle.pipe_lines.specs.inside.Building.{line_tags}
use Rattle.pipe_lines.proofs.tags.tag_line.Given as goal

abbrev pub invariant-loop-is_serial : goal.invariant-loop-is_serial
invariant-loop-is_serial l = l.tags ++ line_tags (drop l.is_serial-index l.serial) ≡ l.initial.tags ++ line_tags l.serial

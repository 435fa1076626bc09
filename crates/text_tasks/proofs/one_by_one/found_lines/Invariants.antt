use Rattle.std.proofs.Common.{◌≡◌, ◌+◌, length}
use Rattle.text_ops.specs.Lines.{lines_of}
use Rattle.text_tasks.specs.inside.Finding.{text_from}
use Rattle.text_tasks.proofs.one_by_one.found_lines.Given as goal

abbrev pub invariant-loop-place : goal.invariant-loop-place
invariant-loop-place l = l.lines + length (lines_of (text_from l.ins l.place)) ≡ length (lines_of (text_from l.ins 0))

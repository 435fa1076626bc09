use Rattle.std.proofs.Common.{◌≡◌, ◌++◌}
use Rattle.text_ops.specs.Lines.{IsNormal}
use Rattle.text_tasks.specs.inside.Finding.{text_from}
use Rattle.text_tasks.proofs.found.put_together.Given as goal

abbrev pub invariant-loop-place : goal.invariant-loop-place
invariant-loop-place l = (l.bytes ++ text_from l.ins l.place ≡ text_from l.ins l.from) × IsNormal l.bytes

use Rattle.std.proofs.Common.{◌≡◌, ◌≤◌, min, length}
use Rattle.join_words.specs.Ins.{parts_of}
use Rattle.text_ops.specs.Lines.{IsNormal}
use Rattle.text_tasks.specs.inside.Finding.{text_from}
use Rattle.text_tasks.proofs.found.found_len.Given as goal

abbrev pub invariant-loop-place : goal.invariant-loop-place
invariant-loop-place l =
    (l.len ≡ length (text_from l.ins l.place))
    × IsNormal (text_from l.ins l.place)
    × (min l.from (length (parts_of l.ins)) ≤ l.place)

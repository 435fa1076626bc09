use Rattle.text_ops.specs.TextMeaning.{head_meaning}
use Rattle.text_tasks.specs.inside.Finding.{text_from}
use Rattle.text_tasks.specs.inside.OneByOne.{JoinedSoFar}
use Rattle.text_tasks.proofs.one_by_one.first_lines.Given as goal

abbrev pub invariant-loop-place : goal.invariant-loop-place
invariant-loop-place l = JoinedSoFar (head_meaning l.left (text_from l.ins l.place)) (head_meaning l.n (text_from l.ins 0)) l.made

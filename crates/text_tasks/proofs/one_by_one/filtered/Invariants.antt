use Rattle.text_tasks.specs.OpMeaning.{text_op_value}
use Rattle.text_tasks.specs.inside.Finding.{text_from}
use Rattle.text_tasks.specs.inside.OneByOne.{JoinedSoFar}
use Rattle.text_tasks.proofs.one_by_one.filtered.Given as goal

abbrev pub invariant-loop-place : goal.invariant-loop-place
invariant-loop-place l = JoinedSoFar (text_op_value l.op (text_from l.ins l.place)) (text_op_value l.op (text_from l.ins 0)) l.made

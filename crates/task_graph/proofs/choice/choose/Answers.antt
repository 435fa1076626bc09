use Rattle.std.proofs.Common.{pos}
use Rattle.std.proofs.lemmas.List.{take_more}
use Rattle.task_graph.proofs.choice.choose.Goals as goal

pub loop-index-preserved : goal.loop-index-preserved
loop-index-preserved c =
    rw (take_more c.args.answer.now c.loop-index.index-index (pos 0) c.loop-index-test.true)
    (c.in_ok-choose_at.ensures _ c.loop-index.invariant)

use Rattle.std.proofs.Common.{arith}
use Rattle.journal_text.proofs.ListLemmas.{so_far_more}
use Rattle.journal_text.proofs.lists.more_items.Goals as goal

pub loop-preserved : goal.loop-preserved
loop-preserved g c =
    let h = c.in_ok-rest.ensures.read in
    (so_far_more h.0 _ c.loop.invariant.0 h.1 (omega arith) h.2, omega arith)

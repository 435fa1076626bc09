use Rattle.std.proofs.Common.{refl, arith}
use Rattle.pitfall_check.proofs.ReachLemmas.{MarksReached-spread, MarksReached-more}
use Rattle.pitfall_check.proofs.reach.mark_from.Goals as goal

pub returns : goal.returns
returns c =
    let net = c.args.net.now in
    let spread = c.in_ok-spread.ensures in
    MarksReached-more net c.spread.new.marks c.args.task
    (MarksReached-spread net c.args.marks.now c.spread.new.marks c.args.task c.args.task c.requires.marks c.requires.task (c.if-not-is_source.ensures.0 refl) spread)
    (λ is none. absurd (omega (arith, none, spread.root_marked)))

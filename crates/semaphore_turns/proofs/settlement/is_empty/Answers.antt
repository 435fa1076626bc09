use Rattle.std.proofs.Common.{arith}
use Rattle.semaphore_turns.proofs.YardReleases.{none_more}
use Rattle.semaphore_turns.proofs.settlement.is_empty.Goals as goal

pub loop-sem-preserved : goal.loop-sem-preserved
loop-sem-preserved g c =
    let i = c.loop-sem.invariant in
    record { none = none_more c.args.yard.now c.loop-sem.sem (omega (arith, c.loop-sem-test.true, c.requires)) i.none (omega (arith, c.count.ensures, c.if-count-gt0.false)) }

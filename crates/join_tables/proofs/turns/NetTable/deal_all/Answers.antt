use Rattle.std.proofs.Common.{ap}
use Rattle.join_tables.proofs.FirstStep.{deals_first}
use Rattle.join_tables.proofs.turns.NetTable.deal_all.Goals as goal

pub deal_first-requires-clause-first : goal.deal_first-requires-clause-first
deal_first-requires-clause-first g c = deals_first c.deref-release-items.result.now c.loop-release.release-index _ c.loop-release.seat.me.0 c.loop-release-test.true (ap (λ m. m.0) c.loop-release.invariant.4)

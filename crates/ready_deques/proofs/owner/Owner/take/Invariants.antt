use Rattle.std.proofs.Common.{◌≡◌}
use Rattle.ready_deques.proofs.owner.Owner.take.Given as goal

abbrev pub invariant-loop : goal.invariant-loop
invariant-loop g l = (l.self.tag ≡ l.initial.self.tag) × (l.self.counts ≡ l.initial.self.counts) × (l.self.zeros ≡ l.initial.self.zeros)

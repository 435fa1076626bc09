use Rattle.std.proofs.Common.{◌≡◌, ◌≤◌}
use Rattle.async_tasks.proofs.seat.AsyncSeat.step.Given as goal

abbrev pub invariant-loop : goal.invariant-loop
invariant-loop g l = (l.self.owner.tag ≡ l.initial.self.owner.tag) × (l.self.owner.counts ≡ l.initial.self.owner.counts)
    × (l.initial.self.owner.zeros ≤ l.self.owner.zeros) × (l.self.last ≡ l.initial.self.last)

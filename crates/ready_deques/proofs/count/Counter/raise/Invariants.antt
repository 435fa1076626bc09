use Rattle.std.proofs.Common.{◌≡◌, []}
use Rattle.ready_deques.specs.inside.Counts.{counting}
use Rattle.ready_deques.proofs.count.Counter.raise.Given as goal

abbrev pub invariant-loop : goal.invariant-loop
invariant-loop g l = (l.seat.table_id ≡ l.self.table.shared.table_id) × (l.seat.me ≡ (counting 0 0 0, []))

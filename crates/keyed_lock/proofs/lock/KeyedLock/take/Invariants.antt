use Rattle.std.proofs.Common.{◌≡◌, []}
use Rattle.keyed_lock.proofs.lock.KeyedLock.take.Given as goal

abbrev pub invariant-loop : goal.invariant-loop
invariant-loop g l = (l.seat.table_id ≡ l.self.table.shared.table_id) × (l.seat.me ≡ (l.self.table.shared.key, []))

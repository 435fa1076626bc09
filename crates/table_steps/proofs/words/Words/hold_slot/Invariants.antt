use Rattle.std.proofs.Common.{◌≡◌}
use Rattle.table_steps.specs.Values.{Knows}
use Rattle.table_steps.proofs.words.Words.hold_slot.Given as goal

abbrev pub invariant-loop : goal.invariant-loop
invariant-loop g l = (l.seat.table_id ≡ l.initial.seat.table_id) × (l.seat.me ≡ l.initial.seat.me) × Knows l.seat.values l.initial.seat.values × (l.seat.found ≡ l.initial.seat.found)

use Rattle.std.proofs.Common.{◌≡◌}
use Rattle.test_parts.proofs.ready_items.queue_all.Given as goal

abbrev pub invariant-loop-item : goal.invariant-loop-item
invariant-loop-item g l = l.hand.owner ≡ l.initial.hand.owner

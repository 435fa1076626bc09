use Rattle.std.proofs.Common.{◌≡◌, [], All}
use Rattle.test_parts.proofs.ready_items.hands_of.Given as goal

abbrev pub invariant-loop-from : goal.invariant-loop-from
invariant-loop-from l = All (λ owner. owner.tag ≡ []) l.owners.items × All (λ hand. hand.owner.tag ≡ []) l.hands.items

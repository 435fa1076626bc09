use Rattle.std.proofs.Common.{◌≡◌, All, length}
use Rattle.ready_deques.specs.Lists.{IsOwnerOf}
use Rattle.ready_deques.proofs.shares.pair_one.Given as goal

abbrev pub invariant-loop-from : goal.invariant-loop-from
invariant-loop-from g l = All (IsOwnerOf l.ready) l.owners.items × (length l.owners.items ≡ length l.initial.owners.items)

abbrev pub invariant-loop-from-2 : goal.invariant-loop-from-2
invariant-loop-from-2 g l = All (IsOwnerOf l.ready) l.owners.items × (length l.owners.items ≡ length l.initial.owners.items)

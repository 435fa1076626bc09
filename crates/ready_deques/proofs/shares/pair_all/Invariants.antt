use Rattle.std.proofs.Common.{◌≡◌, All, length}
use Rattle.ready_deques.specs.Lists.{IsOwnerOf}
use Rattle.ready_deques.proofs.shares.pair_all.Given as goal

abbrev pub invariant-loop-to : goal.invariant-loop-to
invariant-loop-to g l = All (IsOwnerOf l.ready) l.owners.items × (length l.owners.items ≡ length l.initial.owners.items)

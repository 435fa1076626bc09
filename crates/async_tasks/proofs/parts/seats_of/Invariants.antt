use Rattle.std.proofs.Common.{◌≡◌, ◌+◌, All, length}
use Rattle.std.specs.Arc.{arc_value}
use Rattle.std.specs.Vec.{vec_len}
use Rattle.ready_deques.specs.Lists.{IsOwnerOf}
use Rattle.async_tasks.specs.AsyncBooks.{IsNewSeatOf}
use Rattle.async_tasks.proofs.parts.seats_of.Given as goal

abbrev pub invariant-loop-owner : goal.invariant-loop-owner
invariant-loop-owner g l = All (IsOwnerOf (arc_value l.ready)) l.owners.items × All (IsNewSeatOf (arc_value l.ready)) l.seats.items
    × (length l.owners.items + length l.seats.items ≡ length l.initial.owners.items)

abbrev pub decreases-loop-owner : goal.decreases-loop-owner
decreases-loop-owner g l = vec_len l.owners

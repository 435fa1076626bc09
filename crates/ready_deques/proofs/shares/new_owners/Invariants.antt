use Rattle.std.proofs.Common.{◌≡◌, ◌+◌, All, Some, length}
use Rattle.std.specs.Arc.{arc_value}
use Rattle.crossbeam_deque.specs.Handles.{view}
use Rattle.ready_deques.specs.Lists.{IsOwnerOf}
use Rattle.ready_deques.specs.inside.ListParts.{list_name_of}
use Rattle.ready_deques.proofs.shares.new_owners.Given as goal

abbrev pub invariant-loop-parker : goal.invariant-loop-parker
invariant-loop-parker g l =
    All (IsOwnerOf (arc_value l.ready)) l.owners.items
    × All (λ stealer. view stealer.pass ≡ Some (list_name_of (arc_value l.ready))) l.stealers.items
    × (length l.stealers.items ≡ length l.parkers.items)
    × (l.account.counts ≡ (arc_value l.ready).counter.table.shared.table_id)
    × (length l.owners.items + length l.parkers.items ≡ length l.initial.parkers.items)

abbrev pub decreases-loop-parker : goal.decreases-loop-parker
decreases-loop-parker g l = length l.parkers.items

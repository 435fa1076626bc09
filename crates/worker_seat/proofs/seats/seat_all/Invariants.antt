use Rattle.std.proofs.Common.{◌≡◌, ◌+◌, ◌++◌, All, None, length, map, vec_capacity}
use Rattle.ready_deques.specs.Lists.{IsOwnerOf}
use Rattle.worker_seat.specs.Crews.{MayBegin, state_of, watcher_of}
use Rattle.worker_seat.specs.inside.SeatPlaces.{list_name}
use Rattle.worker_seat.proofs.seats.seat_all.Given as goal

abbrev pub invariant-loop-owner : goal.invariant-loop-owner
invariant-loop-owner g l = record {
  watchers : map watcher_of l.seats.items ++ l.watchers.items ≡ l.fn.watchers.items;
  room : length l.seats.items + length l.watchers.items ≡ vec_capacity l.seats;
  owners : All (IsOwnerOf l.ready) l.owners.items;
  count : length l.owners.items ≡ length l.watchers.items;
  list : All (λ seat. (state_of seat).list ≡ list_name l.ready) l.seats.items;
  ready : All MayBegin l.seats.items;
  away : All (λ seat. (state_of seat).book ≡ None) l.seats.items;
}

abbrev pub decreases-loop-owner : goal.decreases-loop-owner
decreases-loop-owner g l = length l.owners.items

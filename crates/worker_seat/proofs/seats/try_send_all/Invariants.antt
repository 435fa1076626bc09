use Rattle.std.proofs.Common.{◌≡◌, ◌+◌, length}
use Rattle.std.specs.Arc.{arc_value}
use Rattle.worker_seat.specs.Seats.{at_job}
use Rattle.worker_seat.specs.Crews.{moved}
use Rattle.worker_seat.specs.inside.Attendances.{AreNew}
use Rattle.worker_seat.specs.inside.SeatPlaces.{changed}
use Rattle.worker_seat.proofs.seats.try_send_all.Given as goal

abbrev pub invariant-loop-seat : goal.invariant-loop-seat
invariant-loop-seat g l = record {
  seats : l.seats ≡ changed (moved (at_job (arc_value l.run).job (arc_value l.run).book)) l.seat-index l.initial.seats;
  tellers : AreNew (arc_value l.run).book.name l.tellers.items;
  count : length l.tellers.items + l.seat-index ≡ length l.initial.seats;
}

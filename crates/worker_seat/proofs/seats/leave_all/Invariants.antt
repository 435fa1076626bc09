use Rattle.std.proofs.Common.{◌≡◌}
use Rattle.worker_seat.specs.Seats.{away}
use Rattle.worker_seat.specs.Crews.{moved}
use Rattle.worker_seat.specs.inside.SeatPlaces.{changed}
use Rattle.worker_seat.proofs.LeavingLemmas.{collected_from}
use Rattle.worker_seat.proofs.seats.leave_all.Given as goal

abbrev pub invariant-loop-seat : goal.invariant-loop-seat
invariant-loop-seat g l = record {
  seats : l.seats ≡ changed (moved away) l.seat-index l.initial.seats;
  spans : l.closed.spans ≡ collected_from l.seat-index l.initial.seats l.fn.fetched.closed.spans;
  run : l.closed.run ≡ l.fn.fetched.closed.run;
}

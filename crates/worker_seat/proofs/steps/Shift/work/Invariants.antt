use Rattle.span_profile.specs.Watch.{TellsOn}
use Rattle.worker_seat.specs.inside.SeatPlaces.{IsSameOwner}
use Rattle.worker_seat.specs.inside.Works.{IsWorkOf, spans_ended}
use Rattle.worker_seat.proofs.steps.Shift.work.Given as goal

abbrev pub invariant-loop : goal.invariant-loop
invariant-loop g l = record {
  owner : IsSameOwner l.initial.owner l.owner;
  work : IsWorkOf l.self.number.now l.work;
  told : TellsOn g.X.Watch.told l.fn.teller.told (spans_ended l.work) l.initial.watcher l.watcher;
}

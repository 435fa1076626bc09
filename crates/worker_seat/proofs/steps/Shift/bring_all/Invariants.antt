use Rattle.worker_seat.specs.inside.SeatPlaces.{IsSameOwner}
use Rattle.worker_seat.specs.inside.Works.{IsWorkOf, KeepsTold}
use Rattle.worker_seat.proofs.steps.Shift.bring_all.Given as goal

abbrev pub invariant-loop : goal.invariant-loop
invariant-loop g l = record {
  owner : IsSameOwner l.initial.owner l.owner;
  work : IsWorkOf l.self.number.now l.work;
  told : KeepsTold g.X.Watch.told l.initial.work l.initial.watcher l.work l.watcher;
}

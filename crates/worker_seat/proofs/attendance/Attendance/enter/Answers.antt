use Rattle.std.proofs.Common.{arith, subst}
use Rattle.worker_seat.specs.inside.SeatPlaces.{HasTold}
use Rattle.worker_seat.proofs.EnteringLemmas.{entered_told}
use Rattle.worker_seat.proofs.attendance.Attendance.enter.Goals as goal

pub returns-in-At-clause-told : goal.returns-in-At-clause-told
returns-in-At-clause-told g c = λ told has found.
    entered_told g.X.Watch.told c.enter_run.result c.in-At.teller told c.args.watcher.now _ (omega (arith, c.count.ensures, c.count.type_inv)) (subst (HasTold told) c.in-At.is has) c.enter_run.ensures.told found

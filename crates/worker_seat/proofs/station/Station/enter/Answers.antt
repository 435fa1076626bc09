use Rattle.std.proofs.Common.{◌∙◌, ap, subst, sym}
use Rattle.worker_seat.specs.inside.SeatPlaces.{HasTold, run_at, told_by}
use Rattle.worker_seat.proofs.EnteringLemmas.{found_true, has_worked, none_told, owner_same, stays_on}
use Rattle.worker_seat.proofs.station.Station.enter.Goals as goal

pub invariant_of-self-in-None : goal.invariant_of-self-in-None
invariant_of-self-in-None g c = (
  c.enter.ensures.fits,
  stays_on _ _ c.self.inside.attendance c.enter.result (owner_same c.self.inside.owner c.enter.new.owner c.enter.ensures.owner) (c.enter.ensures.run ∙ ap run_at c.replace-attendance.ensures.value) c.self.invariant.1,
  none_told c.enter.result _ c.enter.ensures.entered (sym c.in-None.ensures),
)

pub returns-in-Some-clause-ok : goal.returns-in-Some-clause-ok
returns-in-Some-clause-ok g c =
    has_worked g.X.Watch.told _ _ c.self.inside.attendance c.enter.result c.self.inside.refused (told_by c.self.inside.told) c.of.result.value c.in-Some.teller.now _ _ _ c.self.view_is
    (owner_same c.self.inside.owner c.enter.new.owner c.enter.ensures.owner) (c.enter.ensures.run ∙ ap run_at c.replace-attendance.ensures.value) c.in-Some.ensures c.of.ensures
    (c.enter.ensures.told (told_by c.self.inside.told) (subst (HasTold (told_by c.self.inside.told)) (sym c.replace-attendance.ensures.value) c.self.invariant.2)
    (found_true c.enter.result c.in-Some.teller.now c.in-Some.ensures))

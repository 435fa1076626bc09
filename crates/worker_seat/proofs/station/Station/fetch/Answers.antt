use Rattle.std.proofs.Common.{subst}
use Rattle.std.specs.Prelude.{IfSome}
use Rattle.worker_seat.specs.inside.Attendances.{IsFetched, IsFetchedFrom}
use Rattle.worker_seat.proofs.EnteringLemmas.{fetched_from}
use Rattle.worker_seat.proofs.station.Station.fetch.Goals as goal

pub returns-clause-run : goal.returns-clause-run
returns-clause-run g c =
    subst (λ s. IfSome c.fetch.result (IsFetchedFrom g.J.Job.meaning s)) c.self.view_is
    (fetched_from g.J.Job.meaning _ c.self.inside.attendance c.self.inside.refused _ c.fetch.result c.self.invariant.2
    (subst (λ a. IfSome c.fetch.result (IsFetched g.J.Job.meaning a)) c.replace.ensures.value c.fetch.ensures.run))

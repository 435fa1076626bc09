use Rattle.std.proofs.Common.{[], ◌∷◌, ap, subst}
use Rattle.std.specs.Arc.{arc_value}
use Rattle.span_book.specs.SpanBooks.{name_of}
use Rattle.table_frames.specs.Steps.{IsStateOf}
use Rattle.worker_seat.proofs.SeatingLemmas.{closed_of, run_of}
use Rattle.worker_seat.proofs.crew.Crew.run_in.Goals as goal

pub open_run-requires-clause-run : goal.open_run-requires-clause-run
open_run-requires-clause-run g c κs within = run_of g.J.Job.meaning _ _ _ _ _ c.in_ok-job_again.ensures (ap name_of c.in_ok-book_again.ensures) c.in_ok-released.ensures.begins

pub closed_run-requires-after_bounds : goal.closed_run-requires-after_bounds
closed_run-requires-after_bounds g c κs within =
    let begins = c.in_ok-released.ensures.begins in
    closed_of g.J.Job.meaning _ _ _ _ begins.frame _ begins.job_is c.in_ok-job_again.ensures begins.book_is (ap name_of c.in_ok-book_again.ensures) (subst (IsStateOf g.J.Job.meaning (begins.frame ∷ [])) c.in-Closed.is begins.state)

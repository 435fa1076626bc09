use Rattle.std.specs.Arc.{arc_value}
use Rattle.worker_seat.proofs.EnteredLemmas.{may_enter, seats_after, at_run_after, watched_after, spans_after, finished_seats, free_after, refused_seats, refused_watched, run_is_kept}
use Rattle.worker_seat.proofs.crew_runner.run_by_seats.Goals as goal

pub enter_each-requires-clause-seats : goal.enter_each-requires-clause-seats
enter_each-requires-clause-seats g c = may_enter c.args.crew.now _ (arc_value c.args.job) _ _ _ c.requires.seats.of_crew c.in-Ok.ensures.ok c.as_mut_slice.ensures.value

pub finish-requires-after_bounds : goal.finish-requires-after_bounds
finish-requires-after_bounds g c κs within = seats_after g.X.Watch.told c.args.crew.now (arc_value c.args.job) _ _ _ _ _ c.requires.seats c.in-Ok.ensures.ok c.as_mut_slice.ensures.value c.as_mut_slice.ensures.len c.enter_each.auto.seats c.enter_each.ensures

pub returns-in-Ok-clause-run : goal.returns-in-Ok-clause-run
returns-in-Ok-clause-run g c =
    run_is_kept g.J.Job.meaning (arc_value c.args.job) _ _ (at_run_after g.X.Watch.told c.args.crew.now (arc_value c.args.job) _ _ _ _ _ c.requires.seats c.in-Ok.ensures.ok c.as_mut_slice.ensures.value c.as_mut_slice.ensures.len c.enter_each.auto.seats c.enter_each.ensures) c.finish.ensures.run

pub returns-in-Ok-clause-seats : goal.returns-in-Ok-clause-seats
returns-in-Ok-clause-seats g c =
    finished_seats c.args.crew.now _ _ _ c.finish.ensures.left c.finish.ensures.none (seats_after g.X.Watch.told c.args.crew.now (arc_value c.args.job) _ _ _ _ _ c.requires.seats c.in-Ok.ensures.ok c.as_mut_slice.ensures.value c.as_mut_slice.ensures.len c.enter_each.auto.seats c.enter_each.ensures)

pub returns-in-Ok-clause-free : goal.returns-in-Ok-clause-free
returns-in-Ok-clause-free g c = λ some. free_after _ _ (c.finish.ensures.left some)

pub returns-in-Ok-clause-spans : goal.returns-in-Ok-clause-spans
returns-in-Ok-clause-spans g c = spans_after g.X.Watch.told c.args.crew.now (arc_value c.args.job) _ _ _ _ _ c.requires.seats c.in-Ok.ensures.ok c.as_mut_slice.ensures.value c.as_mut_slice.ensures.len c.enter_each.auto.seats c.enter_each.ensures _ _ c.finish.ensures.left c.finish.ensures.spans

pub returns-in-Ok-clause-watchers : goal.returns-in-Ok-clause-watchers
returns-in-Ok-clause-watchers g c = watched_after g.X.Watch.told c.args.crew.now (arc_value c.args.job) _ _ _ _ _ c.requires.seats c.in-Ok.ensures.ok c.as_mut_slice.ensures.value c.as_mut_slice.ensures.len c.enter_each.auto.seats c.enter_each.ensures _ _ c.finish.ensures.left c.finish.ensures.none

pub returns-in-Err-clause-seats : goal.returns-in-Err-clause-seats
returns-in-Err-clause-seats g c = refused_seats c.args.crew.now _ _ c.in-Err.ensures.err c.requires.seats

pub returns-in-Err-clause-watchers : goal.returns-in-Err-clause-watchers
returns-in-Err-clause-watchers g c = refused_watched g.X.Watch.told _ _ c.in-Err.ensures.err

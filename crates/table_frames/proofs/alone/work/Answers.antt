use Rattle.std.proofs.Common.{◌+◌, ap, ◌∙◌, subst, arith}
use Rattle.table_runs.specs.Openings.{Tries}
use Rattle.table_runs.specs.Spans.{spans_done, spans_made}
use Rattle.table_frames.proofs.Telling.{none_over_at_once, tells_same, tells_then}
use Rattle.table_frames.proofs.alone.work.Goals as goal

pub returns-in_ok-conclude-in-Done-clause-told : goal.returns-in_ok-conclude-in-Done-clause-told
returns-in_ok-conclude-in-Done-clause-told g c =
    let meaning = g.J.Job.meaning in
    let told = g.X.Watch.told in
    let tried = subst (Tries meaning c.args.run.now _) c.in-Done.is c.in_ok-attempt.ensures in
    let none = none_over_at_once meaning c.in-Done.attempt.inner tried.2 in
    let old = spans_done c.args.bench.now.done in
    tells_then told old (old + spans_made c.in-Done.attempt.inner) (spans_done c.conclude.new.bench.done) c.args.watcher.now c.args.watcher.now c.conclude.new.watcher
    (tells_same told old (old + spans_made c.in-Done.attempt.inner) c.args.watcher.now (omega (arith, none)))
    c.in_ok-conclude-in-Done.ensures.told

use Rattle.std.proofs.Common.{◌≡◌, ◌+◌, sym, ap, subst, arith}
use Rattle.std.specs.Prelude.{IfNone, IfSome}
use Rattle.join_tables.specs.Keeping.{TellsRun, entries_told}
use Rattle.table_runs.specs.RunKeys.{FrameKey}
use Rattle.table_runs.specs.Openings.{IsInnerIn}
use Rattle.table_runs.specs.OpenStarts.{IsStartOf}
use Rattle.table_runs.specs.Spans.{spans_done, spans_kept}
use Rattle.table_frames.specs.inside.Around.{LevelView, spans_around}
use Rattle.table_frames.specs.inside.Levels.{spans_next}
use Rattle.table_frames.proofs.Telling.{tells_beside, tells_then_ok}
use Rattle.table_frames.proofs.level.Level.advance.Goals as goal

pub run_on-requires-clause-kept : goal.run_on-requires-clause-kept
run_on-requires-clause-kept g c κs within = c.self.invariant.0

pub run_on-requires-clause-bench : goal.run_on-requires-clause-bench
run_on-requires-clause-bench g c κs within = c.self.invariant.1

pub invariant_of-level : goal.invariant_of-level
invariant_of-level g c = (c.in_ok-inner.ensures.same, c.in_ok-inner.ensures.bench, c.self.invariant.2, c.self.invariant.3, c.self.invariant.4)

pub open-requires-after_bounds : goal.open-requires-after_bounds
open-requires-after_bounds g c κs within = subst (λ o. IfSome o (IsInnerIn g.J.Job.meaning c.self.inside.run)) c.in-Some.is c.in_ok-inner.ensures.inner

pub leave-requires-clause-all : goal.leave-requires-clause-all
leave-requires-clause-all g c κs within =
    let meaning = g.J.Job.meaning in
    let kept = c.run_on.new.kept in
    (subst (λ o. IfNone o (TellsRun (meaning.net kept.job) (meaning.limit kept.job) (entries_told kept.keeper.fates) × (spans_done c.run_on.new.bench.done ≡ 0))) c.in-None.is c.in_ok-inner.ensures.all).0

pub leave-requires-clause-frame : goal.leave-requires-clause-frame
leave-requires-clause-frame g c κs within = c.self.invariant.2

pub leave-requires-clause-start : goal.leave-requires-clause-start
leave-requires-clause-start g c κs within =
    let J = g.row.J.Denot in
    let same = ap (λ (k : FrameKey J). k.job) c.in_ok-inner.ensures.same in
    subst (λ (j : J). IfSome c.self.inside.start (IsStartOf g.J.Job.meaning j)) (sym same) c.self.invariant.3

pub leave-requires-clause-outermost : goal.leave-requires-clause-outermost
leave-requires-clause-outermost g c κs within = c.self.invariant.4

pub returns-in_ok-open-in-Some-clause-told : goal.returns-in_ok-open-in-Some-clause-told
returns-in_ok-open-in-Some-clause-told g c =
    let level = c.self.inside in
    let new = c.run_on.new in
    let view : spans_kept level.kept + spans_done level.bench.done + spans_around level.around ≡ c.args.self.spans = ap (λ (v : LevelView g.row.J.Denot). v.spans) c.self.view_is in
    tells_beside g.X.Watch.told (spans_kept level.kept + spans_done level.bench.done) (spans_kept new.kept + spans_done new.bench.done) (spans_around level.around)
    c.args.self.spans c.in_ok-open-in-Some.field-0.spans c.args.watcher.now new.watcher (sym view) c.in_ok-open-in-Some.ensures.spans c.in_ok-inner.ensures.told

pub returns-in-None-clause-told : goal.returns-in-None-clause-told
returns-in-None-clause-told g c =
    let meaning = g.J.Job.meaning in
    let told = g.X.Watch.told in
    let level = c.self.inside in
    let new = c.run_on.new in
    let around = spans_around level.around in
    let view : spans_kept level.kept + spans_done level.bench.done + around ≡ c.args.self.spans = ap (λ (v : LevelView g.row.J.Denot). v.spans) c.self.view_is in
    let none : spans_done new.bench.done ≡ 0 =
    (subst (λ o. IfNone o (TellsRun (meaning.net new.kept.job) (meaning.limit new.kept.job) (entries_told new.kept.keeper.fates) × (spans_done new.bench.done ≡ 0))) c.in-None.is c.in_ok-inner.ensures.all).1 in
    tells_then_ok told spans_next c.args.self.spans (spans_kept new.kept + around) c.leave.result c.args.watcher.now new.watcher c.leave.new.watcher
    (tells_beside told (spans_kept level.kept + spans_done level.bench.done) (spans_kept new.kept + spans_done new.bench.done) around
    c.args.self.spans (spans_kept new.kept + around) c.args.watcher.now new.watcher (sym view) (omega (arith, none)) c.in_ok-inner.ensures.told)
    c.leave.ensures.told

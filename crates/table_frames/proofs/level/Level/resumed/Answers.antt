use Rattle.std.proofs.Common.{◌≡◌, ◌+◌, Option, ap, arith}
use Rattle.nested_runs.specs.Totals.{all_spans}
use Rattle.run_frame.specs.declared.run.FrameRun.{FrameRun}
use Rattle.table_runs.specs.Spans.{spans_done, spans_kept, spans_made}
use Rattle.table_frames.specs.inside.Around.{LevelView, spans_around}
use Rattle.table_frames.proofs.Telling.{tells_beside}
use Rattle.table_frames.proofs.level.Level.resumed.Goals as goal

pub returns-clause-told : goal.returns-clause-told
returns-clause-told g c =
    let level = c.self.inside in
    let rest = spans_kept level.kept + spans_around level.around in
    let done = spans_done c.conclude.new.bench.done in
    let inner = spans_made c.in_ok-attempt.attempt.inner in
    let view : spans_kept level.kept + spans_done level.bench.done + spans_around level.around ≡ c.args.self.spans = ap (λ (v : LevelView g.row.J.Denot). v.spans) c.self.view_is in
    let same : inner ≡ all_spans c.args.inner = ap (λ (run : Option (FrameRun g.row.J.Denot g.row.J-V.Denot)). spans_made run) c.in_ok-attempt.ensures.inner in
    tells_beside g.X.Watch.told (spans_done level.bench.done + inner) done rest (c.args.self.spans + all_spans c.args.inner) (spans_kept level.kept + done + spans_around level.around)
    c.args.watcher.now c.conclude.new.watcher (omega (arith, view, same)) (omega arith) c.in_ok-conclude.ensures.told

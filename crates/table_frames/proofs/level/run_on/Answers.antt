use Rattle.std.proofs.Common.{rules, ◌≡◌, ◌+◌, sym, ap, arith, refl}
use Rattle.table_runs.specs.Spans.{spans_done, spans_kept}
use Rattle.table_frames.proofs.Telling.{tells_beside, tells_same, tells_then}
use Rattle.table_frames.proofs.level.run_on.Goals as goal

pub loop-preserved : goal.loop-preserved
loop-preserved g c =
    let told = g.X.Watch.told in
    let start = spans_kept c.args.kept.now + spans_done c.args.bench.now.done in
    let before = spans_kept c.loop.kept + spans_done c.loop.bench.done in
    let kept = spans_kept c.keep_done.new.kept in
    let done = spans_done c.keep_done.new.bench.done in
    let stepped = spans_done c.step_newest.new.bench.done in (
      search rules,
      search rules,
      search rules,
      tells_then told start before (kept + stepped) c.args.watcher.now c.loop.watcher c.step_newest.new.watcher c.loop.invariant.3
          (tells_beside told done stepped kept before (kept + stepped) c.loop.watcher c.step_newest.new.watcher (let same : kept + done ≡ before = c.in_ok-keep_done.ensures.spans in omega (arith, same)) (omega arith) c.in_ok-inner.ensures.told),
    )

pub returns-then-branch-clause-told : goal.returns-then-branch-clause-told
returns-then-branch-clause-told g c =
    let told = g.X.Watch.told in
    let start = spans_kept c.args.kept.now + spans_done c.args.bench.now.done in
    let before = spans_kept c.loop.kept + spans_done c.loop.bench.done in
    let after = spans_kept c.keep_done.new.kept + spans_done c.keep_done.new.bench.done in
    let same : after ≡ before = c.in_ok-keep_done.ensures.spans in
    tells_then told start before after c.args.watcher.now c.loop.watcher c.loop.watcher c.loop.invariant.3 (tells_same told before after c.loop.watcher (sym same))

pub returns-in-Some-2-clause-told : goal.returns-in-Some-2-clause-told
returns-in-Some-2-clause-told g c =
    let told = g.X.Watch.told in
    let start = spans_kept c.args.kept.now + spans_done c.args.bench.now.done in
    let before = spans_kept c.loop.kept + spans_done c.loop.bench.done in
    let kept = spans_kept c.keep_done.new.kept in
    let done = spans_done c.keep_done.new.bench.done in
    let stepped = spans_done c.step_newest.new.bench.done in
    tells_then told start before (kept + stepped) c.args.watcher.now c.loop.watcher c.step_newest.new.watcher c.loop.invariant.3
    (tells_beside told done stepped kept before (kept + stepped) c.loop.watcher c.step_newest.new.watcher (let same : kept + done ≡ before = c.in_ok-keep_done.ensures.spans in omega (arith, same)) (omega arith) c.in_ok-inner.ensures.told)

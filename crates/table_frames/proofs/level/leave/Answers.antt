use Rattle.std.proofs.Common.{rules, ◌≡◌, ◌+◌, arith}
use Rattle.nested_runs.specs.Totals.{all_spans}
use Rattle.table_runs.specs.Spans.{spans_kept}
use Rattle.table_frames.specs.inside.Around.{spans_around}
use Rattle.table_frames.proofs.Telling.{tells_same}
use Rattle.table_frames.proofs.level.leave.Goals as goal

pub returns-in_default-clause-told : goal.returns-in_default-clause-told
returns-in_default-clause-told g c =
    let around = spans_around c.args.around in
    let none : around ≡ 0 = search rules in
    let all : all_spans c.in_ok-run.run' ≡ spans_kept c.args.kept = c.in_ok-run.ensures.spans in
    tells_same g.X.Watch.told (spans_kept c.args.kept + around) (all_spans c.in_ok-run.run') c.args.watcher.now (omega (arith, none, all))

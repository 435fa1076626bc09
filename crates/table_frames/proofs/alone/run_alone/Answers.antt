use Rattle.std.proofs.Common.{rules, ◌≡◌, ◌<◌, ◌^◌, subst}
use Rattle.std.specs.Arc.{arc_value}
use Rattle.nested_runs.specs.Totals.{all_spans}
use Rattle.table_frames.proofs.Opening.{begins_own}
use Rattle.table_frames.proofs.Telling.{tells_all}
use Rattle.table_frames.proofs.alone.run_alone.Goals as goal

pub new-requires-clause-begins : goal.new-requires-clause-begins
new-requires-clause-begins g c κs within = begins_own g.J.Job.meaning (arc_value c.args.job) c.in_ok-begun.begun c.in_ok-begun.ensures.begins

pub returns-clause-told : goal.returns-clause-told
returns-clause-told g c =
    let told = g.X.Watch.told in
    let count : c.count.result < 2 ^ 64 = search rules in
    let small : told c.args.watcher.now < 2 ^ 64 = subst (λ n. n < 2 ^ 64) c.count.ensures count in
    tells_all told all_spans c.in_ok-new.field-0.spans c.step_all.result c.args.watcher.now c.step_all.new.watcher c.in_ok-new.ensures.spans small c.step_all.ensures.told

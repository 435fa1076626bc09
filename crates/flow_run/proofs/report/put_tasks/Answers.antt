use Rattle.std.proofs.Common.{rules, Err, subst, sym, ◌≡◌, ◌<◌, List, [], length, None, slice_index_or}
use Rattle.std.specs.Option.{option_copied, option_and_then}
use Rattle.outside_io.specs.Sink.{Accepts, Writes}
use Rattle.run_frame.specs.declared.run.ValueRow.{ValueRow}
use Rattle.run_frame.specs.LastEnds.{last_end}
use Rattle.run_frame.specs.NestedRule.{job_of, journal_of}
use Rattle.run_frame.specs.Runs.{value_at, values_of}
use Rattle.text_tasks.specs.declared.item.Item.{Item}
use Rattle.text_tasks.specs.JobMeaning.{net_of, names_of}
use Rattle.flow_run.specs.inside.RisingValues.{AreRising}
use Rattle.report_laws.specs.Output.{task_part}
use Rattle.flow_run.proofs.ReportLemmas.{one_written, one_refused, part_is}
use Rattle.flow_run.proofs.ValueSearch.{kept_rise}
use Rattle.flow_run.proofs.report.put_tasks.Goals as goal

pub last_value-value-requires-clause-rising : goal.last_value-value-requires-clause-rising
last_value-value-requires-clause-rising g c =
    subst (λ (rows : List (ValueRow Item)). AreRising rows) (sym c.as_slice.ensures) (kept_rise c.args.run.now c.requires)

pub loop-task-preserved : goal.loop-task-preserved
loop-task-preserved g c =
    let run = c.args.run.now in
    let t = c.loop-task.task in
    let text = task_part (names_of (job_of run)) (net_of (job_of run)) (journal_of run) (values_of run) in
    let net : c.deref-in-loop-task-2.result.now ≡ net_of (job_of run) = search rules in
    let name : c.task_name.result.now ≡ slice_index_or (names_of (job_of run)) t [] = search rules in
    let end : slice_index_or c.in_ok-ends.ends.items t None ≡ last_end (journal_of run) t = search rules in
    let values : c.as_slice.result.now ≡ values_of run = search rules in
    let value : option_copied c.last_value-value.result ≡ option_and_then (value_at c.as_slice.result.now) (slice_index_or c.in_ok-ends.ends.items t None) = search rules in
    let same = part_is run c.deref-in-loop-task-2.result.now t c.task_name.result.now (slice_index_or c.in_ok-ends.ends.items t None) c.as_slice.result.now (option_copied c.last_value-value.result) net name end values value in
    one_written text t _ _ _ c.loop-task.invariant (subst (Accepts (g.S.Sink.state c.loop-task.out) (g.S.Sink.state c.put_task.new.out)) same c.in_default.ensures)

pub returns-in-Err : goal.returns-in-Err
returns-in-Err g c =
    let run = c.args.run.now in
    let t = c.loop-task.task in
    let text = task_part (names_of (job_of run)) (net_of (job_of run)) (journal_of run) (values_of run) in
    let net : c.deref-in-loop-task-2.result.now ≡ net_of (job_of run) = search rules in
    let name : c.task_name.result.now ≡ slice_index_or (names_of (job_of run)) t [] = search rules in
    let end : slice_index_or c.in_ok-ends.ends.items t None ≡ last_end (journal_of run) t = search rules in
    let values : c.as_slice.result.now ≡ values_of run = search rules in
    let value : option_copied c.last_value-value.result ≡ option_and_then (value_at c.as_slice.result.now) (slice_index_or c.in_ok-ends.ends.items t None) = search rules in
    let inside : t < length (net_of (job_of run)).tasks = search rules in
    let same = part_is run c.deref-in-loop-task-2.result.now t c.task_name.result.now (slice_index_or c.in_ok-ends.ends.items t None) c.as_slice.result.now (option_copied c.last_value-value.result) net name end values value in
    one_refused text t (length (net_of (job_of run)).tasks) _ _ _ c.in-Err.fault inside c.loop-task.invariant (subst (λ bytes. Writes (g.S.Sink.state c.loop-task.out) (g.S.Sink.state c.put_task.new.out) bytes (Err c.in-Err.fault)) same c.in-Err.ensures)

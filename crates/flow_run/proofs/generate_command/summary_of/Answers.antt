use Rattle.std.proofs.Common.{rules, ◌≡◌, ℕ, ◌+◌, ◌*◌, ◌<◌, List, None, length, sym, ap, ◌∙◌, subst, slice_index_or, arith}
use Rattle.run_frame.specs.declared.run.ValueRow.{ValueRow}
use Rattle.run_frame.specs.LastEnds.{last_end}
use Rattle.run_frame.specs.NestedRule.{job_of, journal_of}
use Rattle.run_frame.specs.Runs.{values_of}
use Rattle.text_tasks.specs.declared.item.Item.{Item}
use Rattle.text_tasks.specs.JobMeaning.{net_of}
use Rattle.flow_run.specs.Generated.{done_task, lines_of_last, pipe_task, sum_task}
use Rattle.flow_run.specs.inside.RisingValues.{AreRising}
use Rattle.flow_run.proofs.GeneratedLemmas.{lines_are}
use Rattle.flow_run.proofs.ValueSearch.{kept_rise}
use Rattle.flow_run.proofs.generate_command.summary_of.Goals as goal

pub lines_of_last-requires-clause-rising : goal.lines_of_last-requires-clause-rising
lines_of_last-requires-clause-rising c = subst (λ (rows : List (ValueRow Item)). AreRising rows) (sym c.as_slice-values.ensures) (kept_rise c.args.run.now c.requires.kept)

pub lines_of_last-requires-2-clause-rising : goal.lines_of_last-requires-2-clause-rising
lines_of_last-requires-2-clause-rising c = subst (λ (rows : List (ValueRow Item)). AreRising rows) (sym c.as_slice-values.ensures) (kept_rise c.args.run.now c.requires.kept)

pub lines_of_last-requires-3-clause-rising : goal.lines_of_last-requires-3-clause-rising
lines_of_last-requires-3-clause-rising c = subst (λ (rows : List (ValueRow Item)). AreRising rows) (sym c.as_slice-values.ensures) (kept_rise c.args.run.now c.requires.kept)

pub returns : goal.returns
returns c =
    let run = c.args.run.now in
    let layers : ℕ = c.args.layers in
    let count : length (net_of (job_of run)).tasks ≡ length c.tasks-tasks.result.now = search rules in
    let all : length (net_of (job_of run)).tasks ≡ 10 * layers + 7 = c.requires.tasks in
    let values : c.as_slice-values.result.now ≡ values_of run = search rules in
    let at : (t : ℕ) → t < 10 * layers + 7 → slice_index_or c.in_ok-ends.ends.items t None ≡ last_end (journal_of run) t = λ t below. c.in_ok-ends.ensures.each t (omega (arith, below, count, all)) in
    let sum : c.lines_of_last.result ≡ lines_of_last run (sum_task layers) =
    lines_are run (sum_task layers) c.lines_of_last.result (slice_index_or c.deref-3.result.now (10 * layers) None) c.as_slice-values.result.now (ap (λ es. slice_index_or es (10 * layers) None) c.deref-3.ensures.value ∙ at (10 * layers) (omega arith)) values c.lines_of_last.ensures in
    let done : c.lines_of_last-2.result ≡ lines_of_last run (done_task layers) =
    lines_are run (done_task layers) c.lines_of_last-2.result (slice_index_or c.deref-4.result.now (10 * layers + 4) None) c.as_slice-values.result.now (ap (λ es. slice_index_or es (10 * layers + 4) None) c.deref-4.ensures.value ∙ at (10 * layers + 4) (omega arith)) values c.lines_of_last-2.ensures in
    let pipe : c.lines_of_last-3.result ≡ lines_of_last run (pipe_task layers) =
    lines_are run (pipe_task layers) c.lines_of_last-3.result (slice_index_or c.deref-5.result.now (10 * layers + 6) None) c.as_slice-values.result.now (ap (λ es. slice_index_or es (10 * layers + 6) None) c.deref-5.ensures.value ∙ at (10 * layers + 6) (omega arith)) values c.lines_of_last-3.ensures in
    search (rules, count, sum, done, pipe)

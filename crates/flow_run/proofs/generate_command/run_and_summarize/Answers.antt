use Rattle.std.proofs.Common.{◌≡◌, ◌+◌, ◌*◌, [], length, refl, sym, ◌∙◌, subst}
use Rattle.std.specs.Prelude.{All}
use Rattle.call_status.specs.Delivery.{Delivers}
use Rattle.run_frame.specs.NestedRule.{job_of}
use Rattle.text_tasks.specs.JobMeaning.{net_of}
use Rattle.flow_run.specs.declared.call.Ended.{Ended}
use Rattle.flow_run.specs.Answers.{HasWritten}
use Rattle.flow_run.specs.Generated.{summaries_text}
use Rattle.flow_run.specs.RoundTexts.{TextRun}
use Rattle.flow_run.proofs.GeneratedLemmas.{tasks_of_runs}
use Rattle.flow_run.proofs.RoundReports.{has_written, none_reported}
use Rattle.flow_run.proofs.generate_command.run_and_summarize.Goals as goal

pub returns-in_default-clause-written : goal.returns-in_default-clause-written
returns-in_default-clause-written g c =
    let state = g.S.Sink.state in
    let text = summaries_text c.args.asked.layers in
    let none = c.is_empty-written.ensures in
    subst (λ (end : Ended). HasWritten state c.args.out.now c.args.out.now end.status (end.runs ≡ []) (text end.runs) end.written) (sym c.after_runs.ensures)
    (none_reported state c.args.out.now text refl c.run_rounds-runs.result.runs c.is_empty-written.result none.0 none.1 c.requires.nothing_held)

pub deliver_summary-written-requires-clause-tasks : goal.deliver_summary-written-requires-clause-tasks
deliver_summary-written-requires-clause-tasks g c =
    let layers = c.args.asked.layers in
    subst (All (λ (run : TextRun). length (net_of (job_of run)).tasks ≡ 10 * layers + 7)) (sym c.as_slice-2.ensures)
    (tasks_of_runs layers c.args.job c.run_rounds-runs.result.runs c.requires.job c.run_rounds-runs.ensures.first)

pub returns-clause-written : goal.returns-clause-written
returns-clause-written g c =
    let state = g.S.Sink.state in
    let text = summaries_text c.args.asked.layers in
    let did = c.deliver_summary-written in
    let status = c.status_of_rounds-status in
    subst (λ (end : Ended). HasWritten state c.args.out.now did.new.out end.status (end.runs ≡ []) (text end.runs) end.written) (sym c.after_runs-2.ensures)
    (has_written state c.args.out.now did.new.out _ (text c.run_rounds-runs.result.runs) c.is_ok.result status.result did.result c.is_ok.ensures.value
    (subst (λ runs. Delivers (state c.args.out.now) (state did.new.out) (text runs) did.result) c.as_slice-2.ensures did.ensures.delivers)
    (λ none. did.ensures.none (c.as_slice-2.ensures ∙ none)) status.ensures.done status.ensures.write_fault status.ensures.no_memory)

use Rattle.std.proofs.Common.{◌≡◌, [], refl, sym, ap, ◌∙◌, subst}
use Rattle.call_status.specs.Delivery.{Delivers}
use Rattle.command_line.specs.Rounds.{asked_rounds}
use Rattle.flow_run.specs.declared.call.Ended.{Ended}
use Rattle.flow_run.specs.Answers.{HasWritten, IsAfterRun, JobEnds}
use Rattle.flow_run.specs.RoundTexts.{last_reason, rounds_text}
use Rattle.flow_run.proofs.RoundLemmas.{job_ends}
use Rattle.flow_run.proofs.RoundReports.{has_written, none_reported}
use Rattle.call_status.specs.declared.status.Status.TheVariants.{NoMemory}
use Rattle.flow_run.proofs.WatchLemmas.{seen_end}
use Rattle.flow_run.proofs.run_command.run_and_report.Goals as goal

pub returns-in_default-clause-reported : goal.returns-in_default-clause-reported
returns-in_default-clause-reported g c =
    let state = g.S.Sink.state in
    let text = rounds_text (asked_rounds c.args.asked.options.rounds) c.args.asked.journal in
    let none = c.is_empty-written.ensures in
    subst (λ (end : Ended). HasWritten state c.args.out.now c.args.out.now end.status (end.runs ≡ []) (text end.runs) end.written) (sym c.after_runs.ensures)
    (none_reported state c.args.out.now text refl c.run_rounds-runs.result.runs c.is_empty-written.result none.0 none.1 c.requires.nothing_held)

pub returns-clause-ends : goal.returns-clause-ends
returns-clause-ends g c =
    let ran = c.run_rounds-runs.ensures in
    let status = c.status_of_rounds-status in
    subst (λ (end : Ended). JobEnds c.args.job (asked_rounds c.args.asked.options.rounds) end.status end.runs) (sym c.after_runs-2.ensures)
    (job_ends c.args.job (asked_rounds c.args.asked.options.rounds) status.result c.run_rounds-runs.result.runs ran.first (λ some. ran.all (status.ensures.all some))
    (subst (λ why. IsAfterRun why status.result) (c.in-Ok.ensures ∙ ap last_reason c.as_slice.ensures) status.ensures.after))

pub returns-clause-reported : goal.returns-clause-reported
returns-clause-reported g c =
    let state = g.S.Sink.state in
    let text = rounds_text (asked_rounds c.args.asked.options.rounds) c.args.asked.journal in
    let did = c.deliver_rounds-written in
    let status = c.status_of_rounds-status in
    subst (λ (end : Ended). HasWritten state c.args.out.now did.new.out end.status (end.runs ≡ []) (text end.runs) end.written) (sym c.after_runs-2.ensures)
    (has_written state c.args.out.now did.new.out _ (text c.run_rounds-runs.result.runs) c.is_ok.result status.result did.result c.is_ok.ensures.value
    (subst (λ runs. Delivers (state c.args.out.now) (state did.new.out) (text runs) did.result) c.as_slice-2.ensures did.ensures.delivers)
    (λ none. did.ensures.none (c.as_slice-2.ensures ∙ none)) status.ensures.done status.ensures.write_fault status.ensures.no_memory)

pub returns-in_default-clause-watchers : goal.returns-in_default-clause-watchers
returns-in_default-clause-watchers g c =
    let ran = c.run_rounds-runs in
    seen_end _ c.args.asked.options.workers _ NoMemory ran.result.runs c.after_runs.result c.args.watchers.now.items ran.new.watchers.items
    (ap (λ (e : Ended). e.status) c.after_runs.ensures) (ap (λ (e : Ended). e.runs) c.after_runs.ensures) (λ some. absurd (some refl)) ran.ensures.watchers

pub returns-clause-watchers : goal.returns-clause-watchers
returns-clause-watchers g c =
    let ran = c.run_rounds-runs in
    let status = c.status_of_rounds-status in
    seen_end _ c.args.asked.options.workers _ status.result ran.result.runs c.after_runs-2.result c.args.watchers.now.items ran.new.watchers.items
    (ap (λ (e : Ended). e.status) c.after_runs-2.ensures) (ap (λ (e : Ended). e.runs) c.after_runs-2.ensures) status.ensures.all ran.ensures.watchers

use Rattle.std.proofs.Common.{◌≡◌, [], None, refl, sym, ap, ◌∙◌, subst}
use Rattle.std.proofs.lemmas.Option.{none-some}
use Rattle.command_line.specs.Rounds.{asked_rounds}
use Rattle.flow_run.specs.declared.call.Ended.{Ended}
use Rattle.flow_run.specs.Answers.{HasWritten, IsAfterRun, conclusion_text}
use Rattle.flow_run.specs.Profiles.{IsProfileOf, graph_profile_text}
use Rattle.nested_runs.specs.Rounds.{AreAllRounds}
use Rattle.text_tasks.specs.JobMeaning.{text_job}
use Rattle.flow_run.specs.RoundTexts.{last_reason, round_rule}
use Rattle.flow_run.proofs.RoundLemmas.{job_ends, profile_ends, rows_named}
use Rattle.flow_run.proofs.RoundReports.{has_written, none_written}
use Rattle.flow_run.proofs.profile_command.run_and_count.Goals as goal

pub returns-in_default-counts_of-clause-output : goal.returns-in_default-counts_of-clause-output
returns-in_default-counts_of-clause-output g c =
    subst (λ (end : Ended). HasWritten g.S.Sink.state c.args.out.now c.args.out.now end.status ((end.runs ≡ []) × (end.conclusion ≡ None)) (conclusion_text end.conclusion) end.written)
    (sym c.after_runs-in_default-counts_of.ensures) (none_written g.S.Sink.state c.args.out.now _ c.requires.nothing_held)

pub deliver_counts-written-requires-clause-rows : goal.deliver_counts-written-requires-clause-rows
deliver_counts-written-requires-clause-rows g c = rows_named _ _ c.in-Ok-counts_of.counts c.in-Ok-counts_of.ensures

pub returns-clause-ends : goal.returns-clause-ends
returns-clause-ends g c =
    let ran = c.run_rounds-ran.ensures in
    let runs = c.run_rounds-ran.result.runs in
    let status = c.status_of_rounds in
    let counts = c.in-Ok-counts_of.counts in
    profile_ends c.args.job (asked_rounds c.args.asked.rounds) status.result runs counts
    (job_ends c.args.job (asked_rounds c.args.asked.rounds) status.result runs ran.first (λ some. ran.all (status.ensures.all some))
    (subst (λ why. IsAfterRun why status.result) (c.in-Ok-last_reason.ensures ∙ ap last_reason c.as_slice.ensures) status.ensures.after))
    (subst (λ names. IsProfileOf names runs counts) (c.in-Ok.ensures ∙ c.names.ensures.names)
    (subst (λ these. IsProfileOf c.in-Ok.names these counts) c.as_slice-2.ensures c.in-Ok-counts_of.ensures))
    (λ none. subst (AreAllRounds text_job c.args.job (round_rule (asked_rounds c.args.asked.rounds))) none (ran.all (c.failed_at_once.ensures c.if-failed_at_once.false none)))

pub returns-clause-output : goal.returns-clause-output
returns-clause-output g c =
    let did = c.deliver_counts-written in
    let status = c.status_of_rounds in
    has_written g.S.Sink.state c.args.out.now did.new.out _ (graph_profile_text c.in-Ok-counts_of.counts) c.is_ok.result status.result did.result c.is_ok.ensures.value
    did.ensures (λ none. absurd (none-some _ (sym none.1))) status.ensures.done status.ensures.write_fault status.ensures.no_memory

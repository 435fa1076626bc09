use Rattle.std.proofs.Common.{subst}
use Rattle.graph_plans.specs.PlanRows.{plan_rows}
use Rattle.graph_file.specs.PlanText.{PlanText}
use Rattle.flow_run.specs.Judgements.{HasJournal, StopsAtJournal, StopsBeforeVerdict}
use Rattle.flow_run.specs.Requests.{SourceTexts}
use Rattle.flow_run.proofs.Preparing.{handed_on, judged_by, stops_at_journal}
use Rattle.flow_run.proofs.judge_command.verdict_on.Goals as goal

pub returns-in_err-journal-clause-stops : goal.returns-in_err-journal-clause-stops
returns-in_err-journal-clause-stops g c =
    let held = g.F.Texts.held c.args.texts.now in
    let plan = plan_rows c.in_ok-plan.plan in
    let why = c.in_err-journal.field-0.0 in
    handed_on (StopsBeforeVerdict held c.args.file.now c.args.journal.now) c.from_residual-in_err-journal.result why c.from_residual-in_err-journal.ensures.1
    (stops_at_journal held c.args.file.now c.args.journal.now c.in_ok-bytes.bytes plan why c.in_ok-bytes.ensures.held
    (subst (λ bytes. PlanText bytes plan) c.as_slice.ensures c.in_ok-plan.ensures.plan)
    c.in_ok-plan.ensures.source
    (subst (λ (h : SourceTexts). StopsAtJournal h c.args.journal.now why) c.read_named.ensures.stays c.in_err-journal.ensures.stops))

pub returns-clause-judged : goal.returns-clause-judged
returns-clause-judged g c =
    let held = g.F.Texts.held c.args.texts.now in
    let plan = plan_rows c.in_ok-plan.plan in
    let journal = c.in_ok-journal.journal in
    judged_by held c.args.file.now c.args.journal.now c.in_ok-bytes.bytes plan c.args.limit journal c.in_ok-judge.field-0 c.in_ok-bytes.ensures.held
    (subst (λ bytes. PlanText bytes plan) c.as_slice.ensures c.in_ok-plan.ensures.plan)
    c.in_ok-plan.ensures.source
    (subst (λ (h : SourceTexts). HasJournal h c.args.journal.now journal) c.read_named.ensures.stays c.in_ok-journal.ensures.journal)
    (rw c.deref.ensures at c.in_ok-judge.ensures)

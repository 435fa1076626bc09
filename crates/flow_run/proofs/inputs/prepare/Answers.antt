use Rattle.std.proofs.Common.{subst}
use Rattle.graph_plans.specs.PlanRows.{plan_rows}
use Rattle.graph_file.specs.PlanText.{PlanText}
use Rattle.flow_run.specs.Requests.{IsHeld, SourceTexts, StopsAtText, StopsBefore, TextsAre, file_limit}
use Rattle.flow_run.proofs.Preparing.{handed_on, is_work, requested_job, stops_at_plan_text}
use Rattle.flow_run.proofs.inputs.prepare.Goals as goal

pub first_job-requires : goal.first_job-requires
first_job-requires g c =
    let held = g.F.Texts.held c.read_named.new.texts in
    let are = subst (λ names. TextsAre held names c.in_ok-table.table) c.as_slice-2.ensures c.in_ok-table.ensures.are in
    rw (c.in_ok-plan-2.ensures.ok, c.in_ok-table-2.ensures.ok) (is_work held (plan_rows c.in_ok-plan.plan) c.in_ok-table.table c.args.asked.limit c.args.asked.within_limit c.in_ok-plan.ensures.rules are)

pub returns-clause-requested : goal.returns-clause-requested
returns-clause-requested g c =
    let held = g.F.Texts.held c.args.texts.now in
    let plan = plan_rows c.in_ok-plan.plan in
    let texts = c.in_ok-table.table in
    requested_job held c.args.asked.file.now c.args.asked.limit c.in_ok-bytes.bytes plan texts c.first_job.result
    (subst (λ name. IsHeld held name file_limit c.in_ok-bytes.bytes) c.as_bytes.ensures.value c.in_ok-bytes.ensures.held)
    (subst (λ bytes. PlanText bytes plan) c.as_slice.ensures c.in_ok-plan.ensures.plan)
    c.in_ok-plan.ensures.source
    (subst (λ (h : SourceTexts). TextsAre h plan.texts texts) c.read_named.ensures.stays (subst (λ names. TextsAre (g.F.Texts.held c.read_named.new.texts) names texts) c.as_slice-2.ensures c.in_ok-table.ensures.are))
    (rw (c.in_ok-plan-2.ensures.ok, c.in_ok-table-2.ensures.ok) at c.first_job.ensures)

pub returns-in_err-table-clause-stops : goal.returns-in_err-table-clause-stops
returns-in_err-table-clause-stops g c =
    let held = g.F.Texts.held c.args.texts.now in
    let plan = plan_rows c.in_ok-plan.plan in
    let why = c.in_err-table.field-0.0 in
    handed_on (StopsBefore held c.args.asked.file.now) c.from_residual-in_err-table.result why c.from_residual-in_err-table.ensures.1
    (stops_at_plan_text held c.args.asked.file.now c.in_ok-bytes.bytes plan why
    (subst (λ name. IsHeld held name file_limit c.in_ok-bytes.bytes) c.as_bytes.ensures.value c.in_ok-bytes.ensures.held)
    (subst (λ bytes. PlanText bytes plan) c.as_slice.ensures c.in_ok-plan.ensures.plan)
    c.in_ok-plan.ensures.source
    (subst (λ (h : SourceTexts). StopsAtText h plan.texts why) c.read_named.ensures.stays (subst (λ names. StopsAtText (g.F.Texts.held c.read_named.new.texts) names why) c.as_slice-2.ensures c.in_err-table.ensures.stops)))

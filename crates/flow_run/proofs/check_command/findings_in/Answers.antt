use Rattle.std.proofs.Common.{subst}
use Rattle.graph_file.specs.PlanText.{PlanText}
use Rattle.graph_plans.specs.PlanRows.{plan_rows}
use Rattle.flow_run.proofs.check_command.findings_in.Goals as goal

pub returns-clause-checked : goal.returns-clause-checked
returns-clause-checked g c = record {
  bytes = c.in_ok-bytes.bytes;
  plan = plan_rows c.in_ok-plan.plan;
  read = c.in_ok-bytes.ensures.held;
  stands = subst (λ bytes. PlanText bytes (plan_rows c.in_ok-plan.plan)) c.as_slice.ensures c.in_ok-plan.ensures.plan;
  findings = c.in_ok-findings_on_all.ensures;
}

use Rattle.std.proofs.Common.{subst}
use Rattle.graph_file.specs.PlanText.{PlanText}
use Rattle.graph_plans.specs.PlanRows.{plan_rows}
use Rattle.flow_run.proofs.upgrade_command.upgraded.Goals as goal

pub write_graph-requires : goal.write_graph-requires
write_graph-requires g c = record { bytes = c.in_ok-bytes.bytes; stands = subst (λ bytes. PlanText bytes (plan_rows c.in_ok-plan.plan)) c.as_slice.ensures c.in_ok-plan.ensures.plan }

pub returns-clause-upgraded : goal.returns-clause-upgraded
returns-clause-upgraded g c = record {
  bytes = c.in_ok-bytes.bytes;
  plan = plan_rows c.in_ok-plan.plan;
  read = c.in_ok-bytes.ensures.held;
  stands = subst (λ bytes. PlanText bytes (plan_rows c.in_ok-plan.plan)) c.as_slice.ensures c.in_ok-plan.ensures.plan;
  written = c.in_ok-write_graph.ensures.text;
  same = c.in_ok-write_graph.ensures.reads_back;
}

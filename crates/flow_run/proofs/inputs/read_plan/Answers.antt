use Rattle.std.proofs.Common.{arith}
use Rattle.std.proofs.lemmas.List.{length-map}
use Rattle.graph_plans.specs.PlanRows.{graph_rows}
use Rattle.flow_run.proofs.inputs.read_plan.Goals as goal

pub no_source-requires : goal.no_source-requires
no_source-requires c = omega (arith, c.in_ok-plan.ensures.rules.module_count, length-map c.in_ok-plan.plan.modules graph_rows)

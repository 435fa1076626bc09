use Rattle.std.proofs.Common.{◌∷◌, map, take}
use Rattle.graph_plans.specs.PlanRows.{graph_rows}
use Rattle.flow_run.specs.Checks.{AreFindingsOnAll}
use Rattle.flow_run.proofs.check_command.findings_on_all.Given as goal

abbrev pub invariant-loop-module : goal.invariant-loop-module
invariant-loop-module l = AreFindingsOnAll (graph_rows l.plan.top ∷ map graph_rows (take l.module-index l.plan.modules)) l.found

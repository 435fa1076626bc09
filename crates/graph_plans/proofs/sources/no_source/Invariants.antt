use Rattle.graph_plans.specs.PlanRows.{plan_rows}
use Rattle.graph_plans.specs.Sources.{SourcesBefore}
use Rattle.graph_plans.proofs.sources.no_source.Given as goal

abbrev pub invariant-loop-module : goal.invariant-loop-module
invariant-loop-module l = SourcesBefore (plan_rows l.plan) l.module

use Rattle.std.proofs.Common.{◌+◌, ◌++◌, ◌∷◌, [], ℕ, List, map, take, sym, subst, arith}
use Rattle.graph_plans.specs.PlanRows.{graph_rows}
use Rattle.graph_plans.specs.declared.plans.Graph.{Graph}
use Rattle.flow_run.specs.Checks.{AreFindingsOnAll}
use Rattle.flow_run.proofs.CheckLemmas.{module_rules, one_graph_more, rows_more}
use Rattle.flow_run.proofs.check_command.findings_on_all.Goals as goal

pub findings_on-requires : goal.findings_on-requires
findings_on-requires c = (c.requires.graphs 0 (graph_rows c.args.plan.now.top) (omega arith)).no_first_tokens

pub findings_on-requires-in-loop-module : goal.findings_on-requires-in-loop-module
findings_on-requires-in-loop-module c =
    (module_rules c.args.plan.now c.loop-module.module-index c.module-item.result c.requires
    (rw c.as_slice-module-items.ensures at c.loop-module-test.true) (rw c.as_slice-module-items.ensures at c.module-item.is)).no_first_tokens

pub loop-module-preserved : goal.loop-module-preserved
loop-module-preserved c =
    let modules : List Graph = c.args.plan.now.modules in
    let i : ℕ = c.loop-module.module-index in
    let graph : Graph = c.module-item.result in
    let top = graph_rows c.args.plan.now.top in
    let rows = rows_more modules i graph (rw c.as_slice-module-items.ensures at c.loop-module-test.true) (rw c.as_slice-module-items.ensures at c.module-item.is) in
    let made = c.in_ok-push-2.ensures.ok in
    subst (λ found. AreFindingsOnAll (top ∷ map graph_rows (take (i + 1) modules)) found) (sym made)
    (subst (λ graphs. AreFindingsOnAll (top ∷ graphs) (c.loop-module.found ++ c.in_ok-findings_on-2.field-0 ∷ [])) (sym rows)
    (one_graph_more (top ∷ map graph_rows (take i modules)) c.loop-module.found (graph_rows graph) c.in_ok-findings_on-2.field-0 c.loop-module.invariant c.in_ok-findings_on-2.ensures))

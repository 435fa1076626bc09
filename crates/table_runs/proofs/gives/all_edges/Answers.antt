use Rattle.std.proofs.Common.{rules, ◌≡◌, ◌∙◌, true, sym, subst}
use Rattle.std.proofs.lemmas.Result.{IfOk-weaker}
use Rattle.task_graph.specs.Net.{out_edges}
use Rattle.table_steps.specs.Giving.{MayEndGiving}
use Rattle.table_runs.proofs.Starting.{may_give_all}
use Rattle.table_runs.proofs.gives.all_edges.Goals as goal

pub returns-clause-may : goal.returns-clause-may
returns-clause-may c =
    let may = may_give_all c.args.net.now c.args.task c.requires.in_range c.requires.nested in
    let same : c.out_edges.result.now ≡ out_edges c.args.net.now c.args.task = search rules in
    IfOk-weaker c.from_slice.result _ _ (λ gives is. subst (λ es. MayEndGiving c.args.net.now c.args.task es true) (sym (is ∙ same)) may) c.from_slice.ensures

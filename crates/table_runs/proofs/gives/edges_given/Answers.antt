use Rattle.std.proofs.Common.{rules, ◌≡◌, ◌∙◌, false, sym, ap, subst}
use Rattle.std.specs.Prelude.{IfSome, slice_get}
use Rattle.std.proofs.lemmas.Result.{IfOk-weaker}
use Rattle.task_graph.specs.Net.{out_edges}
use Rattle.task_graph.specs.declared.net.TaskRow.{TaskRow}
use Rattle.table_steps.specs.Giving.{MayEndGiving}
use Rattle.run_frame.specs.Meaning.{FitsShape}
use Rattle.run_frame.specs.WorkRule.{gives_of}
use Rattle.run_frame.specs.declared.job.Answer.TheVariants.{All as AllOf, None as NoneOf, Indices}
use Rattle.table_runs.proofs.Starting.{may_give}
use Rattle.table_runs.proofs.gives.edges_given.Goals as goal

pub returns-in-All-clause-may : goal.returns-in-All-clause-may
returns-in-All-clause-may c =
    let fits = subst (λ a. IfSome (slice_get c.args.net.now.tasks c.args.task) (λ (row : TaskRow). FitsShape row.shape a)) c.in-All.is c.requires.fits in
    let may = may_give c.args.net.now c.args.task AllOf c.requires.in_range fits in
    let same : c.out_edges.result.now ≡ out_edges c.args.net.now c.args.task = search rules in
    IfOk-weaker c.from_slice.result _ _ (λ gives is. subst (λ es. MayEndGiving c.args.net.now c.args.task es false) (sym (is ∙ same)) may) c.from_slice.ensures

pub returns-in-None-clause-may : goal.returns-in-None-clause-may
returns-in-None-clause-may c =
    let fits = subst (λ a. IfSome (slice_get c.args.net.now.tasks c.args.task) (λ (row : TaskRow). FitsShape row.shape a)) c.in-None.is c.requires.fits in
    let may = may_give c.args.net.now c.args.task NoneOf c.requires.in_range fits in
    subst (λ es. MayEndGiving c.args.net.now c.args.task es false) (sym c.new.ensures) may

pub returns-in-Indices-clause-may : goal.returns-in-Indices-clause-may
returns-in-Indices-clause-may c =
    let fits = subst (λ a. IfSome (slice_get c.args.net.now.tasks c.args.task) (λ (row : TaskRow). FitsShape row.shape a)) c.in-Indices.is c.requires.fits in
    let may = may_give c.args.net.now c.args.task (Indices c.in-Indices.indices) c.requires.in_range fits in
    let same : c.as_slice.result.now ≡ c.in-Indices.indices = search rules in
    IfOk-weaker c.chosen.result _ _ (λ gives is. subst (λ es. MayEndGiving c.args.net.now c.args.task es false) (sym (is ∙ ap (λ is. gives_of (out_edges c.args.net.now c.args.task) (Indices is)) same)) may) c.chosen.ensures

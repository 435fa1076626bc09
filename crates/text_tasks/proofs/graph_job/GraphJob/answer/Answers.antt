use Rattle.std.proofs.Common.{◌≡◌, ℕ, ◌<◌, length, get_or, Some, ap, sym, subst, ◌∙◌, arith}
use Rattle.std.specs.Prelude.{IsSomeAnd}
use Rattle.std.specs.Option.{option_map}
use Rattle.std.proofs.lemmas.Option.{slice_get-get_or}
use Rattle.graph_plans.specs.Operations.{HasPipeline, IsOp}
use Rattle.graph_plans.specs.PlanRows.{GraphRows}
use Rattle.graph_plans.specs.declared.ops.Op.{Op}
use Rattle.text_tasks.specs.GraphWork.{GraphWork, IsWork, graph_of}
use Rattle.text_tasks.specs.JobLaws.{graph_of_work, op_count}
use Rattle.text_tasks.specs.OpMeaning.{op_meaning}
use Rattle.text_tasks.specs.inside.Finding.{founds}
use Rattle.text_tasks.specs.inside.Working.{DoesAs}
use Rattle.text_tasks.proofs.PlanLemmas.{pipelines_of_work}
use Rattle.text_tasks.proofs.graph_job.GraphJob.answer.Goals as goal

op_below : (work : GraphWork) (task : ℕ) → IsWork work → task < length (graph_of work).net.tasks → task < length (graph_of work).ops
op_below work task keeps below = omega (arith, below, op_count work keeps)

pub bounds-as_slice-task : goal.bounds-as_slice-task
bounds-as_slice-task c =
    let ops = ap length c.as_slice.ensures ∙ ap (λ (rows : GraphRows). length rows.ops) c.graph.ensures.rows in
    omega (arith, op_below c.args.self.now c.args.task c.graph.ensures.work c.requires.in_range, ops)

pub work-requires-clause-op : goal.work-requires-clause-op
work-requires-clause-op c =
    let work = c.args.self.now in
    let task : ℕ = c.args.task in
    let op : Op = c.index-as_slice-task.result in
    let ops : c.as_slice.result.now ≡ (graph_of work).ops = c.as_slice.ensures ∙ ap (λ (rows : GraphRows). rows.ops) c.graph.ensures.rows in
    let is : op ≡ get_or (graph_of work).ops task op = c.index-as_slice-task.is ∙ ap (λ l. get_or l task op) ops in
    let rules = (graph_of_work work c.graph.ensures.work).ops task op (op_below work task c.graph.ensures.work c.requires.in_range) in
    subst (λ n. IsOp n (length work.plan.modules) op) (sym c.graph.ensures.work.text_count) (subst (IsOp (length work.plan.texts) (length work.plan.modules)) (sym is) rules)

pub work-requires-clause-pipeline : goal.work-requires-clause-pipeline
work-requires-clause-pipeline c =
    let work = c.args.self.now in
    let task : ℕ = c.args.task in
    let op : Op = c.index-as_slice-task.result in
    let ops : c.as_slice.result.now ≡ (graph_of work).ops = c.as_slice.ensures ∙ ap (λ (rows : GraphRows). rows.ops) c.graph.ensures.rows in
    let is : op ≡ get_or (graph_of work).ops task op = c.index-as_slice-task.is ∙ ap (λ l. get_or l task op) ops in
    subst HasPipeline (sym is) (pipelines_of_work work c.graph.ensures.work task op (op_below work task c.graph.ensures.work c.requires.in_range))

pub returns : goal.returns
returns c =
    let work = c.args.self.now in
    let task : ℕ = c.args.task in
    let op : Op = c.index-as_slice-task.result in
    let ops : c.as_slice.result.now ≡ (graph_of work).ops = c.as_slice.ensures ∙ ap (λ (rows : GraphRows). rows.ops) c.graph.ensures.rows in
    let is : op ≡ get_or (graph_of work).ops task op = c.index-as_slice-task.is ∙ ap (λ l. get_or l task op) ops in
    let there = slice_get-get_or (graph_of work).ops task op (op_below work task c.graph.ensures.work c.requires.in_range) ∙ ap Some (sym is) in
    subst (λ o. IsSomeAnd (option_map (op_meaning work (founds c.args.ins.now)) o) (λ meaning. DoesAs meaning c.work.result)) (sym there) c.work.ensures

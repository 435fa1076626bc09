use Rattle.std.proofs.Common.{◌+◌, ℕ, List, ◌++◌, length, drop, sym, ap, subst, ◌∙◌, append-nil, append_assoc, arith}
use Rattle.text_tasks.specs.Sinks.{sink_texts, task_values}
use Rattle.text_tasks.specs.inside.Gathering.{AreLastValues, all_of}
use Rattle.text_tasks.proofs.GatherLemmas.{sink_texts-end, sink_texts-next}
use Rattle.text_tasks.proofs.gathered.texts_of_sinks.Goals as goal

pub loop-task-preserved : goal.loop-task-preserved
loop-task-preserved c =
    let net = c.args.net.now in
    let run = c.args.run.now in
    let t : ℕ = c.loop-task.task in
    let count = ap length c.tasks-tasks.ensures.rows in
    let are = subst (λ n. AreLastValues run n c.in_ok-values.values) count c.in_ok-values.ensures in
    let added = c.in_ok-add_sink.ensures run are in
    ap (λ front. front ++ sink_texts net (t + 1) (drop (t + 1) (task_values net run))) added
    ∙ append_assoc (all_of c.loop-task.texts) _ _
    ∙ ap (λ l. all_of c.loop-task.texts ++ l) (sym (sink_texts-next net run t (omega (arith, c.loop-task-test.true, count))))
    ∙ c.loop-task.invariant

pub returns : goal.returns
returns c =
    let net = c.args.net.now in
    let run = c.args.run.now in
    let texts : List (List ℕ) = c.loop-task.texts in
    let count = ap length c.tasks-tasks.ensures.rows in
    sym (append-nil (all_of texts))
    ∙ ap (λ l. all_of texts ++ l) (sym (sink_texts-end net run c.loop-task.task (omega (arith, c.loop-task-test.false, count))))
    ∙ c.loop-task.invariant

use Rattle.std.proofs.Common.{rules, ◌∙◌, ◌++◌, ◌∷◌, [], sym, ap, get_or, take}
use Rattle.std.proofs.lemmas.List.{take_more}
use Rattle.async_tasks.specs.Books.{value_at}
use Rattle.async_tasks.specs.Histories.{found}
use Rattle.async_tasks.proofs.Telling.{found_push}
use Rattle.async_tasks.proofs.inputs.inputs.Goals as goal

pub loop-task-preserved : goal.loop-task-preserved
loop-task-preserved g l =
    let f = value_at l.args.stages.now in
    let at = get_or l.args.tasks.now l.loop-task.task-index 0 in
    l.in_ok-add_input.ensures ∙ ap (λ xs. xs ++ found f (at ∷ [])) l.loop-task.invariant
    ∙ sym (ap (found f) (take_more l.args.tasks.now l.loop-task.task-index 0 (search rules)) ∙ found_push f (take l.loop-task.task-index l.args.tasks.now) at)

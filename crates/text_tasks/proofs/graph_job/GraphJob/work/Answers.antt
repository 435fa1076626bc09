use Rattle.std.proofs.Common.{◌∙◌, ap, cond}
use Rattle.text_ops.specs.TextMeaning.{has_word}
use Rattle.text_tasks.specs.declared.item.Item.TheVariants.{Text}
use Rattle.text_tasks.specs.OpMeaning.{first_one, second_one}
use Rattle.text_tasks.proofs.graph_job.GraphJob.work.Goals as goal

pub returns-in_ok-first_or_second-in-IfHas : goal.returns-in_ok-first_or_second-in-IfHas
returns-in_ok-first_or_second-in-IfHas c =
    let value = c.in_ok-text-in-IfHas.ensures.value in
    let is = c.has_word-has_word.ensures ∙ ap (λ word. has_word word c.in_ok-text-in-IfHas.text) c.as_slice.ensures ∙ ap (has_word c.in-IfHas.word) value.0 in
    rw (c.in-IfHas.is, c.hands_on-in-IfHas-2.ensures) (ap Text value.0, c.in_ok-first_or_second-in-IfHas.ensures ∙ ap (λ b. cond b first_one second_one) is, value.1)

use Rattle.text_ops.proofs.LineLemmas.{last_decides}
use Rattle.text_ops.proofs.normal_text.is_normal.Goals as goal

pub returns-in-Some : goal.returns-in-Some
returns-in-Some c = last_decides c.args.text.now c.in-Some.byte.now c.in-Some.ensures.value

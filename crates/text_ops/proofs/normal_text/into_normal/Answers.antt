use Rattle.std.proofs.Common.{◌∙◌, sym, subst}
use Rattle.text_ops.specs.Lines.{IsNormal}
use Rattle.text_ops.proofs.LineLemmas.{IsNormal-ended}
use Rattle.text_ops.proofs.normal_text.into_normal.Goals as goal
use Rattle.text_ops.proofs.normal_text.into_normal.Goals.{then-not-is_normal+in_ok-push, else-not-is_normal}

pub returns-clause-normal : goal.returns-clause-normal
returns-clause-normal c =
    elim c.if-not-is_normal.branch [
      | then-not-is_normal+in_ok-push w ↦ subst IsNormal (sym (w.made-is ∙ w.in_ok-push.ensures.ok)) (IsNormal-ended c.args.text)
      | else-not-is_normal w ↦ subst IsNormal (c.as_slice.ensures ∙ sym w.made-is) (c.is_normal.ensures.0 w.if-not-is_normal.false)
    ]

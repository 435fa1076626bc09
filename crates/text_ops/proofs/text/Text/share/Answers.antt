use Rattle.std.proofs.Common.{sym, subst, ap, length}
use Rattle.text_ops.specs.Lines.{IsNormal}
use Rattle.text_ops.proofs.TextLemmas.{between_all}
use Rattle.text_ops.proofs.text.Text.share.Goals as goal

pub cut-requires-clause-lines : goal.cut-requires-clause-lines
cut-requires-clause-lines c = subst IsNormal (sym (between_all c.args.self.now _ (ap length c.as_slice-end.ensures.value))) c.as_slice-end.ensures.normal

pub returns : goal.returns
returns c = rw (between_all c.args.self.now _ (ap length c.as_slice-end.ensures.value)) at c.cut.ensures

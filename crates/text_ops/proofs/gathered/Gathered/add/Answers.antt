use Rattle.std.proofs.Common.{sym, subst}
use Rattle.text_ops.specs.Lines.{IsNormal}
use Rattle.text_ops.proofs.LineLemmas.{IsNormal-append}
use Rattle.text_ops.proofs.gathered.Gathered.add.Goals as goal

pub returns-clause-lines : goal.returns-clause-lines
returns-clause-lines c before piece = subst IsNormal (sym c.in_ok-add_all.ensures.ok) (IsNormal-append c.args.self.now.bytes c.args.piece.now before piece)

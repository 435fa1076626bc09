use Rattle.std.proofs.Common.{sym, subst, length, arith}
use Rattle.std.proofs.lemmas.Slice.{between_to_end}
use Rattle.text_ops.specs.Lines.{IsNormal}
use Rattle.text_ops.proofs.LineLemmas.{IsNormal-drop}
use Rattle.line_folds.proofs.MarkLemmas.{IsNormal-behind}
use Rattle.line_folds.proofs.line_index.LineIndex.from_line.Goals as goal

pub end_of_first-requires : goal.end_of_first-requires
end_of_first-requires c = IsNormal-behind c.self.inside.text.now c.in-Some.mark c.self.invariant.normal

pub returns-clause-normal : goal.returns-clause-normal
returns-clause-normal c = IsNormal-behind _ c.end_of_first.result (IsNormal-behind c.self.inside.text.now c.in-Some.mark c.self.invariant.normal)

use Rattle.std.proofs.Common.{sym, subst}
use Rattle.text_ops.specs.Lines.{lines_of, IsNormal}
use Rattle.text_ops.proofs.NumberLemmas.{NumberedSoFar-end, IsNormal-all_behind}
use Rattle.text_ops.proofs.SortLemmas.{gathered_normal}
use Rattle.text_ops.proofs.numbers.each_behind.Goals as goal

pub finish-requires : goal.finish-requires
finish-requires c =
    let front = c.args.front.now in
    let text = c.args.text.now in
    let so_far = c.loop-line.invariant in
    let whole = NumberedSoFar-end front text c.loop-line.line-iterator c.loop-line.made so_far c.in-None.ensures.steps.0 in
    gathered_normal so_far.all c.loop-line.made so_far.gathered (subst IsNormal (sym whole) (IsNormal-all_behind front (lines_of text)))

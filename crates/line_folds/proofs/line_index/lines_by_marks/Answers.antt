use Rattle.std.proofs.Common.{arith}
use Rattle.line_folds.proofs.MarkLemmas.{IsNormal-behind, lines_before, lines_le, lines_marked}
use Rattle.line_folds.proofs.line_index.lines_by_marks.Goals as goal

pub overflow_mul-result : goal.overflow_mul-result
overflow_mul-result c = omega (arith, lines_before c.args.text.now c.args.marks.now c.requires.marks c.in-Some.ensures.item.3.0, lines_le c.args.text.now)

pub slice_line_count-requires : goal.slice_line_count-requires
slice_line_count-requires c = IsNormal-behind c.args.text.now c.in-Some.last.now c.requires.normal

pub overflow_add-result : goal.overflow_add-result
overflow_add-result c =
    omega (
      arith,
      lines_marked c.args.text.now c.args.marks.now c.in-Some.last.now c.slice_line_count.result c.requires.marks c.in-Some.ensures.item.3.0 (c.in-Some.ensures.item.3.1 0) c.slice_line_count.ensures,
      lines_le c.args.text.now,
    )

pub returns-in-Some : goal.returns-in-Some
returns-in-Some c =
    lines_marked c.args.text.now c.args.marks.now c.in-Some.last.now c.slice_line_count.result c.requires.marks c.in-Some.ensures.item.3.0 (c.in-Some.ensures.item.3.1 0) c.slice_line_count.ensures

use Rattle.std.specs.Prelude.{IsTrue}
use Rattle.std.specs.List.{AllAdjacentBelow}
use Rattle.std.specs.Ordering.{is_lt}
use Rattle.text_ops.specs.declared.counted_line.CountedLine.{CountedLine}
use Rattle.text_ops.specs.LineOrder.{line_cmp}
use Rattle.text_ops.proofs.counted_lines.are_rising.Given as goal

abbrev pub invariant-loop-k : goal.invariant-loop-k
invariant-loop-k l = AllAdjacentBelow (λ (a b : CountedLine). IsTrue (is_lt (line_cmp a.line.now b.line.now))) l.rows l.k

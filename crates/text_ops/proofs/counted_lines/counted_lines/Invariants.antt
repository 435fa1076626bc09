use Rattle.text_ops.specs.inside.Counting.{CountsSoFar}
use Rattle.text_ops.proofs.counted_lines.counted_lines.Given as goal

abbrev pub invariant-loop-line : goal.invariant-loop-line
invariant-loop-line l = CountsSoFar l.text l.rows.items l.line-iterator

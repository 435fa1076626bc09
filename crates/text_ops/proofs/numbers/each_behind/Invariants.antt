use Rattle.text_ops.specs.inside.Numbering.{NumberedSoFar}
use Rattle.text_ops.proofs.numbers.each_behind.Given as goal

abbrev pub invariant-loop-line : goal.invariant-loop-line
invariant-loop-line l = NumberedSoFar l.front l.text l.line-iterator l.made

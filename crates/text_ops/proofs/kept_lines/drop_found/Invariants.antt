use Rattle.std.proofs.Common.{◌-◌, length}
use Rattle.text_ops.specs.TextMeaning.{without_meaning}
use Rattle.text_ops.specs.inside.KeptSoFar.{KeptSoFar}
use Rattle.text_ops.proofs.kept_lines.drop_found.Given as goal

abbrev pub invariant-loop-line : goal.invariant-loop-line
invariant-loop-line l = KeptSoFar (without_meaning l.word) l.text l.kept l.at

abbrev pub decreases-loop-line : goal.decreases-loop-line
decreases-loop-line l = length l.text - l.at

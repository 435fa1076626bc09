use Rattle.std.proofs.Common.{◌-◌, length}
use Rattle.text_ops.specs.inside.Cuts.{LeftBehind}
use Rattle.text_ops.proofs.cuts.end_of_first.Given as goal

abbrev pub invariant-loop-gap : goal.invariant-loop-gap
invariant-loop-gap l = LeftBehind l.text l.n l.at l.left

abbrev pub decreases-loop-gap : goal.decreases-loop-gap
decreases-loop-gap l = length l.text - l.at

use Rattle.std.proofs.Common.{◌-◌, length}
use Rattle.text_ops.specs.inside.Cuts.{LeftBehind}
use Rattle.text_ops.proofs.cuts.blocks_before.Given as goal

abbrev pub invariant-loop-left : goal.invariant-loop-left
invariant-loop-left l = LeftBehind l.text l.n l.at l.left

abbrev pub decreases-loop-left : goal.decreases-loop-left
decreases-loop-left l = length l.text - l.at

use Rattle.text_ops.specs.inside.Cuts.{LeftBefore}
use Rattle.text_ops.proofs.cuts.blocks_behind.Given as goal

abbrev pub invariant-loop-left : goal.invariant-loop-left
invariant-loop-left l = LeftBefore l.text l.n l.end l.left

abbrev pub decreases-loop-left : goal.decreases-loop-left
decreases-loop-left l = l.end

use Rattle.std.proofs.Common.{◌+◌}
use Rattle.text_ops.specs.inside.Cuts.{LeftBefore}
use Rattle.text_ops.proofs.cuts.start_of_last.Given as goal

abbrev pub invariant-loop-place : goal.invariant-loop-place
invariant-loop-place l = LeftBefore l.text (l.n + 1) l.end l.left

abbrev pub decreases-loop-place : goal.decreases-loop-place
decreases-loop-place l = l.end

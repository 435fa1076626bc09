use Rattle.std.proofs.Common.{length}
use Rattle.text_ops.specs.inside.Sorting.{SortedSoFar}
use Rattle.text_ops.proofs.order.sort_by_keys.Given as goal

abbrev pub invariant-loop-sort_key : goal.invariant-loop-sort_key
invariant-loop-sort_key g l = SortedSoFar l.text l.sort_keys.items l.made

abbrev pub decreases-loop-sort_key : goal.decreases-loop-sort_key
decreases-loop-sort_key g l = length l.sort_keys.items

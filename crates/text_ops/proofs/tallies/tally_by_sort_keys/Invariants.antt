use Rattle.std.proofs.Common.{◌-◌, length, map}
use Rattle.text_ops.specs.inside.SortKeys.{keyed_piece}
use Rattle.text_ops.specs.inside.Tallying.{TallySoFar}
use Rattle.text_ops.proofs.tallies.tally_by_sort_keys.Given as goal

abbrev pub invariant-loop-at : goal.invariant-loop-at
invariant-loop-at g l = TallySoFar l.text (map (keyed_piece l.text) l.sort_keys) l.at l.made

abbrev pub decreases-loop-at : goal.decreases-loop-at
decreases-loop-at g l = length l.sort_keys - l.at

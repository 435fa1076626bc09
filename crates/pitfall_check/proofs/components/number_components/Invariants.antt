use Rattle.std.proofs.Common.{◌+◌, ◌<◌, ◌≤◌, length, reverse}
use Rattle.std.specs.List.{All}
use Rattle.pitfall_check.specs.inside.SearchRules.{IsFinishOrder}
use Rattle.pitfall_check.specs.inside.Components.{AreComponentsUpTo}
use Rattle.pitfall_check.proofs.components.number_components.Given as goal

abbrev pub invariant-loop-root : goal.invariant-loop-root
invariant-loop-root l = record {
  numbering : AreComponentsUpTo l.net l.components.items l.component l.left.items;
  finished : IsFinishOrder l.net (reverse l.left.items);
  in_range : All (λ t. t < length l.net.tasks) l.left.items;
  room : l.component + length l.left.items ≤ length l.net.tasks;
}

abbrev pub decreases-loop-root : goal.decreases-loop-root
decreases-loop-root l = length l.left.items

use Rattle.std.proofs.Common.{◌≡◌, ◌≤◌, ◌+◌, ◌++◌, length, vec_capacity}
use Rattle.flow_run.proofs.fronts.put_front.Given as goal

abbrev pub invariant-loop-item : goal.invariant-loop-item
invariant-loop-item g l = record {
  items : l.front.items ++ l.items.items ≡ l.fn.front.items ++ l.initial.items.items;
  space : length l.front.items + length l.items.items ≤ vec_capacity l.items;
}

abbrev pub decreases-loop-item : goal.decreases-loop-item
decreases-loop-item g l = length l.front.items

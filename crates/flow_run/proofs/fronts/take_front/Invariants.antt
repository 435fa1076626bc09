use Rattle.std.proofs.Common.{◌≡◌, ◌≤◌, ◌-◌, ◌++◌, length, vec_capacity}
use Rattle.flow_run.proofs.fronts.take_front.Given as goal

abbrev pub invariant-loop-front : goal.invariant-loop-front
invariant-loop-front g l = record {
  items : l.front.items ++ l.items.items ≡ l.initial.items.items;
  count : length l.front.items ≤ l.count;
  space : vec_capacity l.front ≡ vec_capacity l.fn.front;
  room : vec_capacity l.items ≡ vec_capacity l.initial.items;
}

abbrev pub decreases-loop-front : goal.decreases-loop-front
decreases-loop-front g l = l.count - length l.front.items

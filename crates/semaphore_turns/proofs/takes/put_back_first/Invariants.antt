use Rattle.std.proofs.Common.{◌≡◌, ◌≤◌}
use Rattle.join_tables.specs.States.{turn_with}
use Rattle.semaphore_turns.specs.HeldUnits.{HoldsFirst}
use Rattle.semaphore_turns.proofs.takes.put_back_first.Given as goal

abbrev pub invariant-loop-left : goal.invariant-loop-left
invariant-loop-left g l = record {
  left : l.left ≤ l.count;
  same : l.turn ≡ turn_with l.fn.turn.table l.fn.turn.task l.fn.turn.cause l.fn.turn.refused l.turn.held l.fn.turn.found;
  holds : HoldsFirst l.table.net l.left l.turn;
}

abbrev pub decreases-loop-left : goal.decreases-loop-left
decreases-loop-left g l = l.left

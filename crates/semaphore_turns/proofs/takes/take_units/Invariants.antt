use Rattle.std.proofs.Common.{◌≤◌}
use Rattle.semaphore_turns.specs.HeldUnits.{HoldsFirst, IsSameTurn}
use Rattle.semaphore_turns.proofs.takes.take_units.Given as goal

abbrev pub invariant-loop-place : goal.invariant-loop-place
invariant-loop-place g l = record {
  from : l.from ≤ l.place;
  holds : HoldsFirst l.net l.place l.turn;
  same : IsSameTurn l.fn.turn l.turn;
}

use Rattle.std.proofs.Common.{◌≡◌, ◌+◌, ◌≤◌, take, vec_capacity, vec_len}
use Rattle.semaphore_park.specs.Parking.{yard_key}
use Rattle.semaphore_turns.specs.WokenTurns.{WakesAtMost}
use Rattle.semaphore_turns.specs.YardTurns.{WakesFirst}
use Rattle.semaphore_turns.proofs.wakes.wake_turns.Given as goal

abbrev pub invariant-loop-sem : goal.invariant-loop-sem
invariant-loop-sem g l = record {
  yard : yard_key l.yard ≡ yard_key l.fn.yard;
  wakes : WakesAtMost l.fn.yard.home l.sems l.sem-index l.fn.ready.items l.ready.items;
  first : WakesFirst (take l.sem-index l.sems) l.fn.yard l.yard l.fn.ready.items l.ready.items;
  few : vec_len l.ready ≤ vec_len l.fn.ready + l.sem-index;
  capacity : vec_capacity l.ready ≡ vec_capacity l.fn.ready;
}

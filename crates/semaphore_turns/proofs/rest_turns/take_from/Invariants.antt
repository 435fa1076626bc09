use Rattle.std.proofs.Common.{◌≡◌, ◌-◌, length, vec_capacity, vec_len}
use Rattle.semaphore_park.specs.Parking.{yard_key}
use Rattle.semaphore_turns.specs.WaitingTurns.{yard_of}
use Rattle.semaphore_turns.specs.YardTurns.{releases_in}
use Rattle.semaphore_turns.specs.inside.RestTurns.{IsUntouched, RestsOn, put_back}
use Rattle.semaphore_turns.proofs.rest_turns.take_from.Given as goal

abbrev pub invariant-loop-yard : goal.invariant-loop-yard
invariant-loop-yard g l = record {
  yard : yard_key l.yard ≡ yard_of l.table;
  rests : RestsOn l.table l.rest l.sems.items;
  untouched : IsUntouched l.rest;
  back : put_back l.table.table l.rest.turns l.sems.items (releases_in l.yard) ≡ put_back l.table.table l.fn.turns.rest.turns l.fn.turns.sems.items (releases_in l.fn.yard);
  count : vec_len l.sems ≡ length l.rest.turns;
  room : l.rest.room ≡ l.fn.turns.rest.room;
  capacity : vec_capacity l.sems ≡ vec_capacity l.fn.turns.sems;
}

abbrev pub decreases-loop-yard : goal.decreases-loop-yard
decreases-loop-yard g l = l.rest.room - length l.rest.turns

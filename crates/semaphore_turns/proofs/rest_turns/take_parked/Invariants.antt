use Rattle.std.proofs.Common.{◌≡◌, ◌≤◌, vec_capacity}
use Rattle.semaphore_park.specs.Parking.{yard_key}
use Rattle.semaphore_turns.specs.WaitingTurns.{yard_of}
use Rattle.semaphore_turns.specs.YardTurns.{releases_in}
use Rattle.semaphore_turns.specs.inside.RestTurns.{IsUntouched, RestsOn, put_back}
use Rattle.semaphore_turns.proofs.rest_turns.take_parked.Given as goal

abbrev pub invariant-loop-sem : goal.invariant-loop-sem
invariant-loop-sem g l = record {
  yard : yard_key l.yard ≡ yard_of l.table;
  rests : RestsOn l.table l.turns.rest l.turns.sems.items;
  untouched : IsUntouched l.turns.rest;
  back : put_back l.table.table l.turns.rest.turns l.turns.sems.items (releases_in l.yard) ≡ releases_in l.fn.yard;
  room : l.turns.rest.room ≤ vec_capacity l.turns.sems;
}

use Rattle.std.proofs.Common.{◌≡◌, [], vec_len}
use Rattle.semaphore_park.specs.Parking.{yard_key}
use Rattle.semaphore_turns.specs.WaitingTurns.{yard_of}
use Rattle.semaphore_turns.specs.YardTurns.{releases_in}
use Rattle.semaphore_turns.specs.inside.RestTurns.{RestsOn, put_back}
use Rattle.semaphore_turns.proofs.rest_turns.park_again.Given as goal

abbrev pub invariant-loop-turns : goal.invariant-loop-turns
invariant-loop-turns g l = record {
  yard : yard_key l.yard ≡ yard_of l.table;
  rests : RestsOn l.table l.turns.rest l.turns.sems.items;
  undropped : l.turns.rest.dropped ≡ [];
  back : put_back l.table.table l.turns.rest.turns l.turns.sems.items (releases_in l.yard) ≡ put_back l.table.table l.fn.turns.rest.turns l.fn.turns.sems.items (releases_in l.fn.yard);
}

abbrev pub decreases-loop-turns : goal.decreases-loop-turns
decreases-loop-turns g l = vec_len l.turns.sems

use Rattle.std.proofs.Common.{◌≡◌, ◌++◌, length, map}
use Rattle.std.specs.Prelude.{reverse}
use Rattle.semaphore_turns.specs.Settlements.{dropped_release}
use Rattle.semaphore_turns.specs.inside.RestTurns.{MayDropAll, RestsOn, rest_release}
use Rattle.semaphore_turns.proofs.settlement.drop_all.Given as goal

abbrev pub invariant-loop-sem : goal.invariant-loop-sem
invariant-loop-sem g l = record {
  rests : RestsOn l.table l.rest l.sems.items;
  may : MayDropAll l.rest l.sems.items l.faulted;
  drops : map (dropped_release l.table.table) l.rest.dropped ++ reverse (map (rest_release l.table.table) l.rest.turns) ≡ reverse (map (rest_release l.table.table) l.fn.turns.rest.turns);
}

abbrev pub decreases-loop-sem : goal.decreases-loop-sem
decreases-loop-sem g l = length l.rest.turns

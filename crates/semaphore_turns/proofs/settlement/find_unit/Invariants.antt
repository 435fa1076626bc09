use Rattle.std.proofs.Common.{◌≡◌, ◌≢◌, [], take}
use Rattle.semaphore_turns.specs.inside.RestTurns.{AreFull, IsQuiet, RestsOn}
use Rattle.semaphore_turns.proofs.settlement.find_unit.Given as goal

abbrev pub invariant-loop-place : goal.invariant-loop-place
invariant-loop-place g l = record {
  rests : RestsOn l.table l.rest l.sems.items;
  quiet : IsQuiet l.rest;
  some : l.rest.turns ≢ [];
  turns : l.rest.turns ≡ l.fn.turns.rest.turns;
  sems : l.sems.items ≡ l.fn.turns.sems.items;
  full : AreFull (take l.place l.sems.items) l.rest.full;
}

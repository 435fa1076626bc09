use Rattle.std.proofs.Common.{◌≡◌, drop}
use Rattle.join_tables.specs.States.{owing_state}
use Rattle.semaphore_turns.specs.inside.UnitCounts.{AreOneEach}
use Rattle.semaphore_turns.proofs.returns.return_units.Given as goal

abbrev pub invariant-loop-sem : goal.invariant-loop-sem
invariant-loop-sem g l = record {
  same : l.owing ≡ owing_state l.fn.owing.table l.fn.owing.ended l.fn.owing.left l.owing.units l.fn.owing.found l.fn.owing.bare;
  so_far : AreOneEach (drop l.sem-index l.sem-items) l.owing.units;
}

use Rattle.std.proofs.Common.{◌≡◌}
use Rattle.join_tables.specs.Claims.{with_units}
use Rattle.semaphore_turns.specs.inside.UnitCounts.{CreditsSoFar}
use Rattle.semaphore_turns.proofs.credits.credit_units.Given as goal

abbrev pub invariant-loop-sem : goal.invariant-loop-sem
invariant-loop-sem g l = record {
  same : l.running ≡ with_units l.fn.running l.running.units l.running;
  so_far : CreditsSoFar l.net l.fn.running.task l.sem-index l.running.units;
}

use Rattle.std.proofs.Common.{take}
use Rattle.journal_rules.specs.inside.Units.{Changed, always, with_taken}
use Rattle.journal_rules.proofs.units.take_each.Given as goal

abbrev pub invariant-loop-sem : goal.invariant-loop-sem
invariant-loop-sem l = Changed with_taken always l.fn.counts.items l.counts.items (take l.sem-index l.sems)

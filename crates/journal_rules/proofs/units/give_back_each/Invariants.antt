use Rattle.std.proofs.Common.{take}
use Rattle.journal_rules.specs.inside.Units.{Changed, always, with_back}
use Rattle.journal_rules.proofs.units.give_back_each.Given as goal

abbrev pub invariant-loop-sem : goal.invariant-loop-sem
invariant-loop-sem l = Changed with_back always l.fn.counts.items l.counts.items (take l.sem-index l.sems)

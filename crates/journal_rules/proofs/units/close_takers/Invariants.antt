use Rattle.std.proofs.Common.{take}
use Rattle.journal_rules.specs.inside.Units.{Changed, is_other, with_closed}
use Rattle.journal_rules.proofs.units.close_takers.Given as goal

abbrev pub invariant-loop-sem : goal.invariant-loop-sem
invariant-loop-sem l = Changed (with_closed l.place) (is_other l.puts) l.fn.counts.items l.counts.items (take l.sem-index l.takes)

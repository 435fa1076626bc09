use Rattle.std.proofs.Common.{take}
use Rattle.journal_rules.specs.inside.Units.{Changed, is_other, with_putter}
use Rattle.journal_rules.proofs.units.add_putters.Given as goal

abbrev pub invariant-loop-sem : goal.invariant-loop-sem
invariant-loop-sem l = Changed with_putter (is_other l.takes) l.fn.counts.items l.counts.items (take l.sem-index l.puts)

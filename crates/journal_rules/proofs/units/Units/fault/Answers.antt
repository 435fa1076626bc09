use Rattle.std.proofs.Common.{subst, sym}
use Rattle.std.specs.List.Sorted.{IsStrictlyIncreasing}
use Rattle.journal_rules.proofs.UnitLaws.{sems_counted, units_fault}
use Rattle.journal_rules.proofs.units.Units.fault.Goals as goal

pub close_takers-requires-clause-rising : goal.close_takers-requires-clause-rising
close_takers-requires-clause-rising c = subst IsStrictlyIncreasing (sym c.as_slice.ensures) c.task_row-row.ensures.well_formed.takes.rising

pub close_takers-requires-clause-puts_rising : goal.close_takers-requires-clause-puts_rising
close_takers-requires-clause-puts_rising c = subst IsStrictlyIncreasing (sym c.as_slice-2.ensures) c.task_row-row.ensures.well_formed.puts.rising

pub close_takers-requires-clause-in_range : goal.close_takers-requires-clause-in_range
close_takers-requires-clause-in_range c = rw c.as_slice.ensures (sems_counted c.args.net.now _ _ c.task_row-row.ensures.well_formed.takes c.requires.len)

pub returns : goal.returns
returns c = λ limit journal start why reached closed here counts.
    units_fault c.args.net.now limit c.args.task start _ journal why _ _ _ c.task_row-row.ensures (rw (c.as_slice.ensures, c.as_slice-2.ensures) at c.close_takers.ensures) reached closed here counts

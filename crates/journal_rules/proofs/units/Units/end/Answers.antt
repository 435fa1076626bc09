use Rattle.std.proofs.Common.{refl, subst, sym, ◌∙◌}
use Rattle.std.specs.List.Sorted.{IsStrictlyIncreasing}
use Rattle.journal_rules.specs.declared.units.UnitCount.{UnitCount}
use Rattle.journal_rules.specs.inside.Units.{with_back, always}
use Rattle.journal_rules.proofs.UnitLaws.{sems_counted, changed_small, units_end}
use Rattle.journal_rules.proofs.units.Units.end.Goals as goal

pub give_back_each-requires-clause-rising : goal.give_back_each-requires-clause-rising
give_back_each-requires-clause-rising c = subst IsStrictlyIncreasing (sym c.as_slice-puts.ensures) c.task_row-row.ensures.well_formed.puts.rising

pub give_back_each-requires-clause-in_range : goal.give_back_each-requires-clause-in_range
give_back_each-requires-clause-in_range c = rw c.as_slice-puts.ensures (sems_counted c.args.net.now _ _ c.task_row-row.ensures.well_formed.puts c.requires.len)

pub close_takers-requires-clause-rising : goal.close_takers-requires-clause-rising
close_takers-requires-clause-rising c = subst IsStrictlyIncreasing (sym c.as_slice.ensures) c.task_row-row.ensures.well_formed.takes.rising

pub close_takers-requires-clause-puts_rising : goal.close_takers-requires-clause-puts_rising
close_takers-requires-clause-puts_rising c = subst IsStrictlyIncreasing (sym c.as_slice-puts.ensures) c.task_row-row.ensures.well_formed.puts.rising

pub close_takers-requires-clause-in_range : goal.close_takers-requires-clause-in_range
close_takers-requires-clause-in_range c = rw c.as_slice.ensures (sems_counted c.args.net.now _ _ c.task_row-row.ensures.well_formed.takes (c.give_back_each.ensures.len ∙ c.requires.len))

pub close_takers-requires-clause-room : goal.close_takers-requires-clause-room
close_takers-requires-clause-room c = changed_small (λ (u : UnitCount). u.closed_takers) with_back always _ _ _ _ (λ u. refl) c.give_back_each.ensures (λ k d below. (c.requires.small k d below).closed)

pub returns : goal.returns
returns c = λ limit journal start gives inner reached closed here counts.
    units_end c.args.net.now limit c.args.task start _ journal gives inner _ _ _ _ c.task_row-row.ensures (rw c.as_slice-puts.ensures at c.give_back_each.ensures) (rw (c.as_slice.ensures, c.as_slice-puts.ensures) at c.close_takers.ensures) reached closed here counts

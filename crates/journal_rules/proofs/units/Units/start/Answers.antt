use Rattle.std.proofs.Common.{refl, subst, sym, ◌∙◌}
use Rattle.std.specs.List.Sorted.{IsStrictlyIncreasing}
use Rattle.journal_rules.specs.declared.units.UnitCount.{UnitCount}
use Rattle.journal_rules.specs.inside.Units.{with_taken, always}
use Rattle.journal_rules.proofs.UnitLaws.{sems_counted, changed_small, units_start}
use Rattle.journal_rules.proofs.units.Units.start.Goals as goal

pub take_each-requires-clause-rising : goal.take_each-requires-clause-rising
take_each-requires-clause-rising c = subst IsStrictlyIncreasing (sym c.as_slice-takes.ensures) c.task_row-row.ensures.well_formed.takes.rising

pub take_each-requires-clause-in_range : goal.take_each-requires-clause-in_range
take_each-requires-clause-in_range c = rw c.as_slice-takes.ensures (sems_counted c.args.net.now _ _ c.task_row-row.ensures.well_formed.takes c.requires.len)

pub add_putters-requires-clause-rising : goal.add_putters-requires-clause-rising
add_putters-requires-clause-rising c = subst IsStrictlyIncreasing (sym c.as_slice.ensures) c.task_row-row.ensures.well_formed.puts.rising

pub add_putters-requires-clause-takes_rising : goal.add_putters-requires-clause-takes_rising
add_putters-requires-clause-takes_rising c = subst IsStrictlyIncreasing (sym c.as_slice-takes.ensures) c.task_row-row.ensures.well_formed.takes.rising

pub add_putters-requires-clause-in_range : goal.add_putters-requires-clause-in_range
add_putters-requires-clause-in_range c = rw c.as_slice.ensures (sems_counted c.args.net.now _ _ c.task_row-row.ensures.well_formed.puts (c.take_each.ensures.len ∙ c.requires.len))

pub add_putters-requires-clause-room : goal.add_putters-requires-clause-room
add_putters-requires-clause-room c = changed_small (λ (u : UnitCount). u.putters) with_taken always _ _ _ _ (λ u. refl) c.take_each.ensures (λ k d below. (c.requires.small k d below).putters)

pub returns : goal.returns
returns c = λ limit journal cause ins reached counts.
    units_start c.args.net.now limit c.args.task _ journal cause ins _ _ _ c.task_row-row.ensures (rw c.as_slice-takes.ensures at c.take_each.ensures) (rw (c.as_slice.ensures, c.as_slice-takes.ensures) at c.add_putters.ensures) reached counts

use Rattle.std.proofs.Common.{ap, ◌∙◌, sym, length}
use Rattle.journal_rules.proofs.UnitLaws.{sems_counted, wanted_is}
use Rattle.journal_rules.proofs.units.Units.wanted.Goals as goal

pub first_without-requires-clause-in_range : goal.first_without-requires-clause-in_range
first_without-requires-clause-in_range c = rw c.as_slice.ensures (sems_counted c.args.net.now _ _ c.task_row-row.ensures.well_formed.takes c.requires.len)

pub first_without-requires-clause-maxima : goal.first_without-requires-clause-maxima
first_without-requires-clause-maxima c = ap length c.sems.ensures.rows ∙ sym c.requires.len

pub returns : goal.returns
returns c = λ journal counts. wanted_is c.args.net.now c.args.task _ journal _ _ _ c.task_row-row.ensures c.sems.ensures.rows counts (rw c.as_slice.ensures at c.first_without.ensures)

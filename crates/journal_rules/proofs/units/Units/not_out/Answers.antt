use Rattle.journal_rules.proofs.UnitLaws.{sems_counted, not_out_is}
use Rattle.journal_rules.proofs.units.Units.not_out.Goals as goal

pub first_not_out-requires : goal.first_not_out-requires
first_not_out-requires c = rw c.as_slice.ensures (sems_counted c.args.net.now _ _ c.task_row-row.ensures.well_formed.puts c.requires.len)

pub returns : goal.returns
returns c = λ journal counts. not_out_is c.args.net.now c.args.task _ journal _ _ c.task_row-row.ensures counts (rw c.as_slice.ensures at c.first_not_out.ensures)

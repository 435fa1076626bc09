use Rattle.std.proofs.Common.{take}
use Rattle.profile_table.specs.inside.Counting.{Counts}
use Rattle.profile_table.proofs.table.count_entries.Given as goal

abbrev pub invariant-loop-entry : goal.invariant-loop-entry
invariant-loop-entry l = Counts l.journal (take l.entry-index l.journal) l.fn.rows.items l.rows.items

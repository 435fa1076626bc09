use Rattle.profile_table.proofs.CountingLemmas.{another_fits}
use Rattle.profile_table.proofs.table.count_entries.Goals as goal

pub count_entry-requires : goal.count_entry-requires
count_entry-requires c = another_fits c.args.journal.now c.loop-entry.entry-index c.args.rows.now.items c.loop-entry.rows.items c.loop-entry-test.true c.requires c.loop-entry.invariant

use Rattle.std.proofs.Common.{◌+◌, List, length, ap}
use Rattle.profile_table.specs.Profiles.{Profile, after_journal}
use Rattle.profile_table.specs.declared.row.TableRow.{TableRow}
use Rattle.profile_table.proofs.CountingLemmas.{rows_after, still_at_most}
use Rattle.profile_table.proofs.table.Table.add.Goals as goal

pub invariant_of-self : goal.invariant_of-self
invariant_of-self c = still_at_most c.args.journal.now c.self.inside.entries c.self.inside.rows.items c.count_entries.new.rows.items c.self.invariant c.count_entries.ensures

pub returns : goal.returns
unfolding after_journal
returns c =
    let table : List TableRow → Profile = λ rows. record { rows = rows; entries = c.self.inside.entries + length c.args.journal.now } in
    rw (← c.self.view_is) (ap table (rows_after c.args.journal.now c.self.inside.rows.items c.count_entries.new.rows.items c.count_entries.ensures))

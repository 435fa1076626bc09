use Rattle.async_journal.proofs.Tables.{journal_by_tables}
use Rattle.async_journal.proofs.RunLegal.{made_whole}
use Rattle.async_journal.proofs.journal.journal_of_events.Goals as goal

pub returns-clause-journal : goal.returns-clause-journal
returns-clause-journal c = journal_by_tables c.args.net.now c.args.adds.now c.args.events.now c.in_ok-starts.starts.items c.in_ok-ends.ends.items c.deref.result.now c.deref-2.result.now c.entries_of.result
    c.entries_of.ensures c.deref.ensures.value c.deref-2.ensures.value c.in_ok-starts.ensures c.in_ok-ends.ensures

pub returns-clause-whole : goal.returns-clause-whole
returns-clause-whole c = made_whole c.args.net.now c.args.adds.now c.args.events.now c.entries_of.result
    (journal_by_tables c.args.net.now c.args.adds.now c.args.events.now c.in_ok-starts.starts.items c.in_ok-ends.ends.items c.deref.result.now c.deref-2.result.now c.entries_of.result
    c.entries_of.ensures c.deref.ensures.value c.deref-2.ensures.value c.in_ok-starts.ensures c.in_ok-ends.ensures)

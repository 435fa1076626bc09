use Rattle.std.proofs.Common.{subst}
use Rattle.std.proofs.lemmas.List.Elements.{All-more}
use Rattle.outside_io.proofs.Pieces.{row_written, row_refused}
use Rattle.journal_text.specs.JournalText.{HasLine, entry_line}
use Rattle.journal_text.specs.declared.version.Version.TheVariants.{Two}
use Rattle.journal_text.proofs.printer.put_entries.Goals as goal

pub loop-entry-preserved : goal.loop-entry-preserved
loop-entry-preserved g c = (
  row_written entry_line _ _ _ _ _ _ c.loop-entry-test.true c.entry-item.is c.loop-entry.invariant.0 c.in_default.ensures.writes,
  All-more (HasLine Two) _ _ _ c.loop-entry-test.true c.loop-entry.invariant.1 (subst (HasLine Two) c.entry-item.is c.in_default.ensures.fits),
)

pub returns-in-Err-clause-writes : goal.returns-in-Err-clause-writes
returns-in-Err-clause-writes g c = row_refused entry_line _ _ _ _ _ _ c.in-Err.fault c.loop-entry-test.true c.entry-item.is c.loop-entry.invariant.0 c.in-Err.ensures.writes

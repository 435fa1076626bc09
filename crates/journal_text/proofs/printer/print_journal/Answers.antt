use Rattle.std.specs.List.{flat_map}
use Rattle.std.proofs.Common.{refl}
use Rattle.std.proofs.lemmas.List.Elements.{recursion_from_All}
use Rattle.std.proofs.lemmas.Result.{on_ok_weaker}
use Rattle.outside_io.proofs.Pieces.{writes_both, writes_no_more}
use Rattle.journal_text.specs.JournalText.{HasLine, entry_line, version_line}
use Rattle.journal_text.specs.declared.version.Version.TheVariants.{Two}
use Rattle.journal_text.proofs.printer.print_journal.Goals as goal

pub returns-in-Err-clause-writes : goal.returns-in-Err-clause-writes
returns-in-Err-clause-writes g c = writes_no_more _ _ (version_line Two) (flat_map entry_line c.args.journal.now) c.in-Err.fault c.in-Err.ensures

pub returns-clause-writes : goal.returns-clause-writes
returns-clause-writes g c = writes_both _ _ _ (version_line Two) (flat_map entry_line c.args.journal.now) c.put_entries.result c.in_default.ensures c.put_entries.ensures.writes

pub returns-clause-text : goal.returns-clause-text
returns-clause-text g c = on_ok_weaker c.put_entries.result (λ all. record { version = Two; lines = recursion_from_All (HasLine Two) _ all; text = refl }) c.put_entries.ensures.fits

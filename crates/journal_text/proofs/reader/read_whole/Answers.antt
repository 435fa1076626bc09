use Rattle.std.proofs.Common.{sym}
use Rattle.journal_text.proofs.TextLemmas.{no_first_line, texts_so, refusals_so}
use Rattle.journal_text.proofs.reader.read_whole.Goals as goal

pub returns-in_default-clause-refusal : goal.returns-in_default-clause-refusal
returns-in_default-clause-refusal c = no_first_line c.args.bytes.now (sym c.in_default.ensures)

pub returns-clause-journal : goal.returns-clause-journal
returns-clause-journal c = texts_so c.in-Some.version c.args.bytes.now c.in-Some.rest.now c.read_entries.result (sym c.in-Some.ensures) c.read_entries.ensures.journal

pub returns-clause-refusal : goal.returns-clause-refusal
returns-clause-refusal c = refusals_so c.in-Some.version c.args.bytes.now c.in-Some.rest.now c.read_entries.result (sym c.in-Some.ensures) c.read_entries.ensures.stops

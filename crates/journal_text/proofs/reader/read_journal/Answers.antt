use Rattle.journal_text.proofs.TextLemmas.{text_is_read}
use Rattle.journal_text.proofs.reader.read_journal.Goals as goal

pub returns-clause-text : goal.returns-clause-text
returns-clause-text c = text_is_read c.args.bytes.now c.read_whole.result c.read_whole.ensures.journal c.read_whole.ensures.refusal

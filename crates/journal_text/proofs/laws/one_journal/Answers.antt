use Rattle.std.proofs.Common.{refl}
use Rattle.journal_text.specs.declared.version.Version.TheVariants.{Two}
use Rattle.journal_text.proofs.TextLemmas.{one_journal, one_version}
use Rattle.journal_text.proofs.laws.one_journal.Goals as goal

pub returns : goal.returns
returns c = record { journal = one_journal; version = one_version; text = λ journal lines. record { version = Two; lines = lines; text = refl } }

use Rattle.journal_text.proofs.TextLemmas.{one_line}
use Rattle.journal_text.proofs.laws.one_bad_line.Goals as goal

pub returns : goal.returns
returns c = record { one = one_line; text = λ bytes n journal bad. bad.no_text journal }

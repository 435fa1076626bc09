use Rattle.journal_rules.proofs.Snoc.{waiting_push}
use Rattle.journal_rules.proofs.laws.what_waits_after_an_entry.Goals as goal

pub returns : goal.returns
returns c = waiting_push

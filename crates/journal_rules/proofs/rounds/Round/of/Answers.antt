use Rattle.journal_rules.proofs.Rounding.{round_of}
use Rattle.journal_rules.proofs.rounds.Round.of.Goals as goal

pub returns : goal.returns
returns c = round_of _ _ _ c.least_at-least.ensures c.count_at-at_least.ensures

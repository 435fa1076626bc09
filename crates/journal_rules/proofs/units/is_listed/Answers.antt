use Rattle.std.proofs.Common.{◌∙◌}
use Rattle.journal_rules.proofs.Changing.{searched_any}
use Rattle.journal_rules.proofs.units.is_listed.Goals as goal

pub returns : goal.returns
returns c = c.is_ok.ensures.value ∙ searched_any _ _ _ c.requires c.binary_search.ensures.position

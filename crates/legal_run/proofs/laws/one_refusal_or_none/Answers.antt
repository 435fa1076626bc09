use Rattle.journal_rules.proofs.Reaching.{reached_legal}
use Rattle.legal_run.proofs.Refusing.{one_refusal, breaks_nothing}
use Rattle.legal_run.proofs.laws.one_refusal_or_none.Goals as goal

pub returns-clause-one : goal.returns-clause-one
returns-clause-one c = one_refusal

pub returns-clause-none : goal.returns-clause-none
returns-clause-none c = λ net limit journal entry break rows legal may refusal. breaks_nothing net limit journal entry break (reached_legal net limit journal rows legal) may refusal.breaks

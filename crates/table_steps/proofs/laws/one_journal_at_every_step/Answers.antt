use Rattle.table_steps.proofs.OneJournal.{entries_are_one}
use Rattle.table_steps.proofs.laws.one_journal_at_every_step.Goals as goal

pub returns : goal.returns
returns g c = λ net limit s keeps. entries_are_one net limit s keeps

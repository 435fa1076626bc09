use Rattle.std.specs.Arc.{arc_value}
use Rattle.table_steps.proofs.words.Words.add_credit.Given as goal

abbrev pub ghosts-credit_told : goal.ghosts-credit_told
ghosts-credit_told g a = record { net = arc_value a.self.now.net; limit = a.self.now.table.shared.key.limit; sem = a.sem }

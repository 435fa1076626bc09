use Rattle.std.specs.Arc.{arc_value}
use Rattle.table_steps.proofs.words.Words.learn.Given as goal

abbrev pub ghosts-learn_told : goal.ghosts-learn_told
ghosts-learn_told g a = record { net = arc_value a.self.now.net; limit = a.self.now.table.shared.key.limit; edge = 0; task = 0 }

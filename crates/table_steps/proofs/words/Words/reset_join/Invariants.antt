use Rattle.std.specs.Arc.{arc_value}
use Rattle.table_steps.proofs.words.Words.reset_join.Given as goal

abbrev pub ghosts-reset_told : goal.ghosts-reset_told
ghosts-reset_told g a = record { net = arc_value a.self.now.net; limit = 0; edge = 0; task = 0 }

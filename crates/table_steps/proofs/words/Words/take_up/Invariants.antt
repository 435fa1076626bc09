use Rattle.std.specs.Arc.{arc_value}
use Rattle.table_steps.proofs.words.Words.take_up.Given as goal

abbrev pub ghosts-take_up_told : goal.ghosts-take_up_told
ghosts-take_up_told g a = record { net = arc_value a.self.now.net; limit = 0; edge = 0; task = 0 }

use Rattle.std.specs.Arc.{arc_value}
use Rattle.table_steps.proofs.words.Words.draw_start.Given as goal

abbrev pub ghosts-start_told : goal.ghosts-start_told
ghosts-start_told g a = record { net = arc_value a.self.now.net; limit = 0; edge = 0; task = 0 }

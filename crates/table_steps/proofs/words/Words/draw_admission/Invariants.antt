use Rattle.std.specs.Arc.{arc_value}
use Rattle.table_steps.proofs.words.Words.draw_admission.Given as goal

abbrev pub ghosts-admit_told : goal.ghosts-admit_told
ghosts-admit_told g a = record { net = arc_value a.self.now.net; limit = a.self.now.table.shared.key.limit; edge = 0; task = 0 }

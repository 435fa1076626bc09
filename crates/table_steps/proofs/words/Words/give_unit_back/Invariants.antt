use Rattle.std.specs.Arc.{arc_value}
use Rattle.table_steps.proofs.words.Words.give_unit_back.Given as goal

abbrev pub ghosts-return_told : goal.ghosts-return_told
ghosts-return_told g a = record { net = arc_value a.self.now.net; sem = a.sem }

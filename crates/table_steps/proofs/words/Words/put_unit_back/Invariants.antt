use Rattle.std.specs.Arc.{arc_value}
use Rattle.table_steps.proofs.words.Words.put_unit_back.Given as goal

abbrev pub ghosts-put_unit_told : goal.ghosts-put_unit_told
ghosts-put_unit_told g a = record { net = arc_value a.self.now.net; sem = a.sem }

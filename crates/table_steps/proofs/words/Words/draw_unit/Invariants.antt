use Rattle.std.specs.Arc.{arc_value}
use Rattle.table_steps.proofs.words.Words.draw_unit.Given as goal

abbrev pub ghosts-take_unit_told : goal.ghosts-take_unit_told
ghosts-take_unit_told g a = record { net = arc_value a.self.now.net; sem = a.sem }

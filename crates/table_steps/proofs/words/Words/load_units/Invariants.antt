use Rattle.std.specs.Arc.{arc_value}
use Rattle.table_steps.proofs.words.Words.load_units.Given as goal

abbrev pub ghosts-ask_told : goal.ghosts-ask_told
ghosts-ask_told g a = record { net = arc_value a.self.now.net; sem = a.sem }

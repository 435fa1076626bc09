use Rattle.std.specs.Arc.{arc_value}
use Rattle.table_steps.proofs.words.Words.try_slot.Given as goal

abbrev pub ghosts-try_told : goal.ghosts-try_told
ghosts-try_told g a = record { net = arc_value a.self.now.net; edge = a.edge; puts = a._puts; last = a._last }

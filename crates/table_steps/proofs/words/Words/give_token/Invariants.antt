use Rattle.std.specs.Arc.{arc_value}
use Rattle.table_steps.proofs.words.Words.give_token.Given as goal

abbrev pub ghosts-give_told : goal.ghosts-give_told
ghosts-give_told g a = record { net = arc_value a.self.now.net; limit = 0; edge = a.edge; task = 0 }

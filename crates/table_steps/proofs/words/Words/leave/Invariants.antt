use Rattle.std.specs.Arc.{arc_value}
use Rattle.table_steps.proofs.words.Words.leave.Given as goal

abbrev pub ghosts-leave_told : goal.ghosts-leave_told
ghosts-leave_told g a = record { net = arc_value a.self.now.net; limit = a.self.now.table.shared.key.limit; edge = 0; task = 0 }

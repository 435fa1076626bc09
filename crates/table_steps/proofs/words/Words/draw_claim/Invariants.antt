use Rattle.std.specs.Arc.{arc_value}
use Rattle.table_steps.proofs.words.Words.draw_claim.Given as goal

abbrev pub ghosts-claim_told : goal.ghosts-claim_told
ghosts-claim_told g a = record { net = arc_value a.self.now.net; limit = a.self.now.table.shared.key.limit; sem = a.sem }

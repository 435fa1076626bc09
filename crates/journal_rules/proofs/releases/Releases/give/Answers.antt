use Rattle.std.proofs.Common.{refl}
use Rattle.journal_rules.proofs.ReleaseLaws.{end_counts}
use Rattle.journal_rules.proofs.releases.Releases.give.Goals as goal

pub returns : goal.returns
returns c = λ journal start inner counts. end_counts c.args.net.now journal start c.args.gives.now inner c.args.self.now _ counts c.requires.once refl refl refl c.give.ensures.rounds c.give.ensures.each

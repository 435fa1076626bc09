use Rattle.std.proofs.Common.{ap, ◌∙◌}
use Rattle.journal_rules.specs.declared.rounds.Round.{Round}
use Rattle.journal_rules.proofs.ReleaseLaws.{round_least}
use Rattle.journal_rules.proofs.releases.Releases.rounds_left.Goals as goal

pub returns : goal.returns
returns c = λ journal counts.
    let least_is = ap (λ (r : Round). r.least) c.index.ensures ∙ round_least c.args.net.now journal c.args.self.now c.args.task c.index.result.now counts c.requires.task in
    let used_is = c.index-2.ensures ∙ counts.used.each c.args.task c.index-2.result.now c.requires.task in
    rw (← least_is, ← used_is) c.saturating_sub.ensures

use Rattle.journal_rules.proofs.CountLaws.{over_rule}
use Rattle.legal_run.proofs.position.Position.is_true_fault.Goals as goal

pub returns-in-OverRelease : goal.returns-in-OverRelease
returns-in-OverRelease c =
    let started = rw (← c.self.view_is) at c.requires.started in
    let law = c.is_over_release.ensures _ c.self.invariant.counted.units started in
    rw (← c.self.view_is) (over_rule c.self.inside.net.now c.self.inside.journal.now c.args.start c.args.task c.in-OverRelease.sem c.args.why _ started c.in-OverRelease.is law)

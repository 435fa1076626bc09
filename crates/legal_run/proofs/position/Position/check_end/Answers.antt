use Rattle.std.proofs.Common.{◌<◌, length}
use Rattle.std.proofs.lemmas.List.Elements.{recursion_from_All}
use Rattle.legal_run.proofs.Refusing.{may_end}
use Rattle.journal_rules.proofs.CountLaws.{none_counted, choice_rule}
use Rattle.journal_rules.specs.HaltLimitStuckRule.{is_stuck}
use Rattle.legal_run.proofs.position.Position.check_end.Goals as goal

pub returns-clause-checked : goal.returns-clause-checked
returns-clause-checked c =
    let at = c.self.invariant in
    let found = rw (← c.self.view_is) at c.in-Some.ensures in
    let edges = c.each_below.ensures.0 c.if-not-each_below.false in
    let fits = rw (← c.self.view_is) at (c.fits.ensures.fits.0 c.if-not-fits.false) in
    let enough = rw (← c.self.view_is) at c.in_default-not_out.ensures in
    rw (← c.self.view_is) (
      may_end _ _ c.args.start c.in-Some.task _ c.args.gives.now c.args.inner at.reached (recursion_from_All (λ e. e < length c.self.inside.net.now.edges) c.args.gives.now (rw c.edges.ensures.rows at edges)) (λ any. none_counted is_stuck c.self.inside.journal.now _ at.counted.stuck c.if-self.false) found.0.1 found.0.0.started
          (choice_rule c.self.inside.net.now c.self.inside.journal.now c.args.start c.in-Some.task c.args.gives.now c.args.inner found.0.0.started fits) enough,
      found.0.0,
    )

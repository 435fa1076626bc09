use Rattle.legal_run.proofs.Refusing.{may_fault}
use Rattle.journal_rules.proofs.CountLaws.{none_counted}
use Rattle.journal_rules.specs.HaltLimitStuckRule.{is_stuck}
use Rattle.legal_run.proofs.position.Position.check_fault.Goals as goal

pub returns-clause-checked : goal.returns-clause-checked
returns-clause-checked c =
    let at = c.self.invariant in
    let found = rw (← c.self.view_is) at c.in-Some.ensures in
    let why = rw (← c.self.view_is) at (c.is_why_in_range.ensures.0 c.if-not-is_why_in_range.false) in
    let rule = rw (← c.self.view_is) at (c.is_true_fault.ensures.0 c.if-not-is_true_fault.false) in
    rw (← c.self.view_is) (may_fault _ _ c.args.start _ c.args.why at.reached why (λ any. none_counted is_stuck c.self.inside.journal.now _ at.counted.stuck c.if-self.false) found.0.1 rule, found.0.0)

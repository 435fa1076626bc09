use Rattle.legal_run.proofs.Refusing.{may_start}
use Rattle.std.proofs.Common.{arith}
use Rattle.journal_rules.proofs.CountLaws.{none_counted}
use Rattle.journal_rules.specs.HaltLimitStuckRule.{is_stuck}
use Rattle.legal_run.proofs.position.Position.check_start.Goals as goal

pub returns : goal.returns
returns c = λ ins.
    let at = c.self.invariant in
    let names = c.names.ensures.0 c.if-not-names.false in
    let released = c.is_released.ensures.0 c.if-not-is_released.false in
    let wanted = c.in_default.ensures in
    rw (← c.self.view_is) (may_start _ _ c.args.task _ c.args.cause ins at.reached (rw (← c.self.view_is) at names.0) (rw (← c.self.view_is) at names.1) (λ any. none_counted is_stuck c.self.inside.journal.now _ at.counted.stuck c.if-self.false) (rw (← c.self.view_is) at released) (rw (← c.self.view_is) at wanted) (omega (arith, at.counted.starts, c.if-self-2.false)))

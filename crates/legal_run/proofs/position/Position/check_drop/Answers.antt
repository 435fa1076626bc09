use Rattle.std.proofs.Common.{sym, ◌∙◌}
use Rattle.std.proofs.lemmas.Bool.{false≢true}
use Rattle.journal_rules.specs.declared.entry.Entry.TheVariants.{Drop}
use Rattle.journal_rules.specs.HaltLimitStuckRule.{AfterStuckRule, is_stuck}
use Rattle.legal_run.proofs.Refusing.{drop_answer}
use Rattle.journal_rules.proofs.CountLaws.{none_counted}
use Rattle.legal_run.proofs.position.Position.check_drop.Goals.{else-self-via-then-self+else-not-is_stuck, else-self-via-else-self}
use Rattle.legal_run.proofs.position.Position.check_drop.Goals as goal

pub returns : goal.returns
returns c =
    let at = c.self.invariant in
    let names = rw (← c.self.view_is) at (c.names.ensures.0 c.if-not-names.false) in
    let why = rw (← c.self.view_is) at (c.has_drop_why.ensures.0 c.if-not-has_drop_why.false) in
    let released = rw (← c.self.view_is) at (c.is_released.ensures.0 c.if-not-is_released.false) in
    let checked = rw (← c.self.view_is) at c.check_why.ensures in
    let after : AfterStuckRule c.self.inside.journal.now (Drop c.args.task c.args.cause c.args.why) = elim c.else-self.branch [
      | else-self-via-then-self+else-not-is_stuck w ↦ (λ plain. absurd (false≢true (sym plain ∙ sym w.is_stuck.ensures ∙ w.if-not-is_stuck.false)))
      | else-self-via-else-self w ↦ (λ plain. none_counted is_stuck c.self.inside.journal.now _ at.counted.stuck w.if-self.false)
    ] in
    rw (← c.self.view_is) (drop_answer _ _ c.args.task _ c.args.cause c.args.why c.check_why.result at.reached names.0 names.1 why after released checked)

use Rattle.std.proofs.Common.{sym, ◌∙◌}
use Rattle.std.proofs.lemmas.Bool.{false≢true}
use Rattle.journal_rules.proofs.CountLaws.{complete_is, left_of}
use Rattle.legal_run.proofs.position.Position.is_complete.Goals as goal

pub returns-then-not-is_used_up : goal.returns-then-not-is_used_up
returns-then-not-is_used_up c =
    (λ holds. absurd (false≢true holds), λ complete. absurd (false≢true (sym c.if-not-is_used_up.true ∙ c.is_used_up.ensures.1 (left_of _ _ _ complete))))

pub returns : goal.returns
returns c = (
  λ reaches. complete_is _ _ _ (c.is_idle.ensures.0 c.if-not-is_idle.false) (c.is_used_up.ensures.0 c.if-not-is_used_up.false) (c.reaches_limit.ensures.0 reaches),
  λ complete. c.reaches_limit.ensures.1 complete.limited,
)

use Rattle.journal_rules.proofs.ReleaseLaws.{none_left}
use Rattle.legal_run.proofs.position.Position.is_used_up.Goals as goal

pub returns : goal.returns
returns c =
    let law = none_left _ _ _ c.self.invariant.counted.releases c.self.invariant.reached.unused in
    rw (← c.self.view_is) (λ up. law.0 (c.are_used_up.ensures.0 up), λ none. c.are_used_up.ensures.1 (law.1 none))

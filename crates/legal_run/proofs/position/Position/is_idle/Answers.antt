use Rattle.journal_rules.proofs.CountLaws.{idle_is}
use Rattle.legal_run.proofs.position.Position.is_idle.Goals as goal

pub returns : goal.returns
returns c =
    let law = idle_is _ _ c.self.invariant.counted.opened in
    rw (← c.self.view_is) (λ idle. law.0 (c.is_empty.ensures.0 idle), λ closed. c.is_empty.ensures.1 (law.1 closed))

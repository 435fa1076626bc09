use Rattle.std.proofs.Common.{sym, ◌∙◌}
use Rattle.std.proofs.lemmas.Bool.{eqb-true, eq-eqb}
use Rattle.legal_run.proofs.position.Position.has_no_fault.Goals as goal

pub returns : goal.returns
returns c = rw (← c.self.view_is) (λ none. sym c.self.invariant.counted.faults ∙ eqb-true _ _ none, λ none. eq-eqb _ _ (c.self.invariant.counted.faults ∙ none))

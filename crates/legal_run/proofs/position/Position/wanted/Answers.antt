use Rattle.legal_run.proofs.position.Position.wanted.Goals as goal

pub returns : goal.returns
returns c = rw (← c.self.view_is) (c.wanted.ensures _ c.self.invariant.counted.units)

use Rattle.legal_run.proofs.position.Position.is_released.Goals as goal

pub returns : goal.returns
returns c = rw (← c.self.view_is) (c.is_released.ensures _ c.self.invariant.counted.releases)

use Rattle.ready_deques.proofs.Holding.{copies}
use Rattle.ready_deques.proofs.deque.stealer_pass.Goals as goal

pub another-requires : goal.another-requires
another-requires g c = copies g.T.Tagged.tag _ _ c.requires

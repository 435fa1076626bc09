use Rattle.ready_deques.proofs.Holding.{gives}
use Rattle.ready_deques.proofs.deque.name.Goals as goal

pub another-requires : goal.another-requires
another-requires g c = gives g.T.Tagged.tag _ _ _ c.requires

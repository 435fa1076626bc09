use Rattle.ready_deques.proofs.Holding.{pushes}
use Rattle.ready_deques.proofs.deque.push.Goals as goal

pub push_as-requires-clause-pushes : goal.push_as-requires-clause-pushes
push_as-requires-clause-pushes g c = pushes g.T.Tagged.tag _ _ _ c.requires

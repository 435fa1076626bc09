use Rattle.ready_deques.proofs.Holding.{takes}
use Rattle.ready_deques.proofs.deque.steal.Goals as goal

pub steal_as-requires-clause-takes : goal.steal_as-requires-clause-takes
steal_as-requires-clause-takes g c = takes g.T.Tagged.tag _ _ 1

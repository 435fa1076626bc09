use Rattle.ready_deques.proofs.Holding.{takes, pops}
use Rattle.ready_deques.proofs.deque.pop.Goals as goal

pub pop_as-requires-clause-fifo : goal.pop_as-requires-clause-fifo
pop_as-requires-clause-fifo g c = λ _. takes g.T.Tagged.tag _ _ 1

pub pop_as-requires-clause-lifo : goal.pop_as-requires-clause-lifo
pop_as-requires-clause-lifo g c = λ _. pops g.T.Tagged.tag _ _

use Rattle.semaphore_park.proofs.Parked.{first_waits}
use Rattle.semaphore_park.proofs.state.YardState.wake_in.Goals as goal

pub returns-clause-waits : goal.returns-clause-waits
returns-clause-waits g c =
    rw c.take_first.ensures.first (first_waits g.T.Parkable.waits_at _ _ c.args.sem c.index_mut.result.now c.self.view_is c.self.invariant c.requires c.index_mut.ensures.value)

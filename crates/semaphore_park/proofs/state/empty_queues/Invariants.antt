use Rattle.std.proofs.Common.{◌≡◌, ◌≤◌, [], replicate}
use Rattle.semaphore_park.proofs.state.empty_queues.Given as goal

abbrev pub invariant-loop : goal.invariant-loop
invariant-loop g l = (l.queues.items ≡ replicate l.counter []) × (l.count ≤ l.queues.cap)

use Rattle.std.proofs.Common.{◌≡◌, All, length}
use Rattle.crossbeam_deque.specs.Handles.{view, worker_view}
use Rattle.ready_deques.proofs.shares.outside_stealers.Given as goal

abbrev pub invariant-loop : goal.invariant-loop
invariant-loop g l =
    (worker_view l.outside ≡ worker_view l.initial.outside)
    × All (λ stealer. view stealer.pass ≡ worker_view l.initial.outside) l.stealers.items
    × (length l.stealers.items ≡ l.counter)

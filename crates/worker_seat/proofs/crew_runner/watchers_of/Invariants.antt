use Rattle.std.proofs.Common.{◌≡◌, ◌≤◌, ◌+◌, ◌++◌, length, map, vec_capacity}
use Rattle.worker_seat.specs.Crews.{watcher_of}
use Rattle.worker_seat.proofs.crew_runner.watchers_of.Given as goal

abbrev pub invariant-loop-watchers : goal.invariant-loop-watchers
invariant-loop-watchers g l = record {
  watchers : l.watchers.items ++ map watcher_of l.seats.items ≡ map watcher_of l.fn.seats.items;
  room : length l.watchers.items + length l.seats.items ≤ vec_capacity l.watchers;
}

abbrev pub decreases-loop-watchers : goal.decreases-loop-watchers
decreases-loop-watchers g l = length l.seats.items

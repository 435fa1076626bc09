use Rattle.std.proofs.Common.{◌≡◌, ◌≤◌, None, replicate, vec_capacity}
use Rattle.async_journal.proofs.places.nowhere.Given as goal

abbrev pub invariant-loop-task : goal.invariant-loop-task
invariant-loop-task l = (l.places.items ≡ replicate l._task None) × (l.tasks ≤ vec_capacity l.places)

use Rattle.std.proofs.Common.{◌≡◌, ◌<◌, ℕ, None, length, slice_index_or}
use Rattle.run_frame.specs.LastEnds.{last_before}
use Rattle.run_frame.proofs.end_values.last_ends.Given as goal

abbrev pub invariant-loop-place : goal.invariant-loop-place
invariant-loop-place l = record {
  len : length l.ends.items ≡ l.fn.tasks;
  each : (t : ℕ) → t < l.fn.tasks → slice_index_or l.ends.items t None ≡ last_before l.fn.journal t l.place;
}

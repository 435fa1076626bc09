use Rattle.std.proofs.Common.{◌≡◌, ◌<◌, ℕ, None, length, take, slice_index_or, option_map}
use Rattle.std.specs.Arc.{arc_value}
use Rattle.run_frame.specs.Runs.{value_at}
use Rattle.run_frame.proofs.end_values.values_by_place.Given as goal

abbrev pub invariant-loop-row : goal.invariant-loop-row
invariant-loop-row g l = record {
  len : length l.values.items ≡ l.fn.places;
  each : (n : ℕ) → n < l.fn.places → option_map arc_value (slice_index_or l.values.items n None) ≡ value_at (take l.row-index l.rows) n;
}

use Rattle.std.proofs.Common.{◌≡◌, ◌+◌, ◌≤◌, ◌++◌, length, vec_capacity, vec_len}
use Rattle.std.specs.Vec.Iter.{into_iter_items}
use Rattle.table_runs.specs.inside.Rows.{rows_of}
use Rattle.table_runs.proofs.run_keeper.value_rows.Given as goal

abbrev pub invariant-loop-recorded : goal.invariant-loop-recorded
invariant-loop-recorded g l = record {
  so_far : l.rows.items ++ rows_of (into_iter_items l.recorded-iterator) ≡ rows_of l.fn.values.items;
  room : vec_len l.rows + length (into_iter_items l.recorded-iterator) ≤ vec_capacity l.rows;
}

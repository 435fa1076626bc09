use Rattle.std.proofs.Common.{◌≡◌, ◌+◌, ◌≤◌, ◌++◌, length, vec_capacity, vec_len}
use Rattle.std.specs.Vec.Iter.{into_iter_items}
use Rattle.table_runs.proofs.table_run.ready_turns.Given as goal

abbrev pub invariant-loop-one : goal.invariant-loop-one
invariant-loop-one g l = record {
  so_far : l.ready.items ++ into_iter_items l.one-iterator ≡ l.fn.fresh.items;
  room : vec_len l.ready + length (into_iter_items l.one-iterator) ≤ vec_capacity l.ready;
}

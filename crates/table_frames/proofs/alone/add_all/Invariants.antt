use Rattle.std.proofs.Common.{◌≡◌, ◌+◌, ◌≤◌, ◌++◌, reverse, vec_capacity, vec_len}
use Rattle.table_frames.proofs.alone.add_all.Given as goal

abbrev pub invariant-loop-fresh : goal.invariant-loop-fresh
invariant-loop-fresh g l = record {
  room : vec_len l.ready + vec_len l.made ≤ vec_capacity l.ready;
  so_far : l.ready.items ++ reverse l.made.items ≡ l.fn.ready.items ++ reverse l.fn.made.items;
}

abbrev pub decreases-loop-fresh : goal.decreases-loop-fresh
decreases-loop-fresh g l = vec_len l.made

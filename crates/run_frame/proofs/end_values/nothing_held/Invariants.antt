use Rattle.std.proofs.Common.{◌≡◌, None, replicate}
use Rattle.std.specs.Vec.{vec_capacity}
use Rattle.run_frame.proofs.end_values.nothing_held.Given as goal

abbrev pub invariant-loop-place : goal.invariant-loop-place
invariant-loop-place g l = (l.held.items ≡ replicate l._place None) × (vec_capacity l.held ≡ l.count)

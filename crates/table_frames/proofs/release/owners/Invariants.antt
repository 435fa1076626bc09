use Rattle.std.proofs.Common.{◌≡◌, vec_capacity, vec_len}
use Rattle.std.specs.Prelude.{All}
use Rattle.std.specs.Arc.{arc_value}
use Rattle.table_frames.proofs.release.owners.Given as goal

abbrev pub invariant-loop-owner : goal.invariant-loop-owner
invariant-loop-owner g l = record {
  same : All (λ owner. arc_value owner ≡ arc_value l.frame) l.owners.items;
  len : vec_len l.owners ≡ l._owner;
  room : vec_capacity l.owners ≡ l.count;
}

use Rattle.std.proofs.Common.{◌≡◌, ◌<◌, length, map, reverse}
use Rattle.std.specs.List.{AllByRecursion}
use Rattle.std.specs.Vec.{vec_len}
use Rattle.join_tables.specs.inside.Merging.{drop_row, placed}
use Rattle.join_tables.proofs.merge.put_drops.Given as goal

abbrev pub invariant-loop-dropping : goal.invariant-loop-dropping
invariant-loop-dropping g l =
    (placed (map drop_row (reverse l.drops.items)) l.places.items ≡ placed (map drop_row (reverse l.initial.drops.items)) l.initial.places.items)
    × (AllByRecursion (λ x. x.0 < length l.places.items) (map (drop_row {V = g.row.V.Denot}) (reverse l.drops.items)))

abbrev pub decreases-loop-dropping : goal.decreases-loop-dropping
decreases-loop-dropping g l = vec_len l.drops

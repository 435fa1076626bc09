use Rattle.std.proofs.Common.{◌≡◌, ◌<◌, length}
use Rattle.std.specs.List.{AllByRecursion}
use Rattle.std.specs.Vec.Iter.{into_iter_items}
use Rattle.join_tables.specs.inside.Merging.{all_rows, placed}
use Rattle.join_tables.proofs.merge.put_all.Given as goal

abbrev pub invariant-loop-fate : goal.invariant-loop-fate
invariant-loop-fate g l =
    (placed (all_rows (into_iter_items l.fate-iterator)) l.places.items ≡ placed (all_rows l.fn.fates.items) l.initial.places.items)
    × (AllByRecursion (λ x. x.0 < length l.places.items) (all_rows (into_iter_items l.fate-iterator)))

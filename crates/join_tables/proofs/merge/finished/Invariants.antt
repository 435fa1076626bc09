use Rattle.std.proofs.Common.{◌≡◌, ◌++◌, length}
use Rattle.std.specs.Vec.Iter.{into_iter_items}
use Rattle.join_tables.specs.inside.Merging.{journal_in, values_from}
use Rattle.join_tables.proofs.merge.finished.Given as goal

abbrev pub invariant-loop-row : goal.invariant-loop-row
invariant-loop-row g l =
    (l.run.journal ++ journal_in (into_iter_items l.row-iterator) ≡ journal_in l.fn.places.items)
    × (l.run.values.items ++ values_from (length l.run.journal) (into_iter_items l.row-iterator) ≡ values_from 0 l.fn.places.items)

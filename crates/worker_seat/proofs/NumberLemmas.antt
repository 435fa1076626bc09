-- The shelves of a crew's numbered frames, by their names.
use Rattle.std.proofs.Common.{◌≡◌, ℕ, zero, suc, List, [], ◌∷◌, map, refl}
use Rattle.std.specs.Prelude.{slice_index_or}
use Rattle.boxcar.specs.Slot.{Named}
use Rattle.boxcar.specs.Table.{Shelves, id_at}
use Rattle.worker_seat.specs.inside.Numbers.{shelf_names}

pub name_at : (shelves : Shelves) (k : ℕ) → slice_index_or (shelf_names shelves) k 0 ≡ id_at shelves.buckets k
name_at shelves k = among shelves.buckets k
  where
    among : (shelf : List Named) (j : ℕ) → slice_index_or (map (λ (s : Named). s.id) shelf) j 0 ≡ id_at shelf j
    among [] j = refl
    among (s ∷ more) zero = refl
    among (s ∷ more) (suc j) = among more j

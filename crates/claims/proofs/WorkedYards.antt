-- What the words of yards say: of a yard of home 5, with 1 and 2 parked on semaphore 0 and 3 on semaphore 2; and of a
-- pass, of which only some fields are known.
use Rattle.std.proofs.Common.{◌≡◌, ◌≢◌, ℕ, [], ◌∷◌, None, refl}
use Rattle.keyed_lock.specs.declared.lock.LockPass.{LockPass}
use Rattle.semaphore_park.specs.declared.yard.ParkYard.{ParkYard}
use Rattle.semaphore_park.specs.Parking.{YardView, yard_view, empty_yard, parked_on, with_parked, yard_key}
use Rattle.semaphore_park.specs.Yards.{opened_as, IsYardPass}

abbrev yard : YardView ℕ ℕ
yard = yard_view 5 ((1 ∷ 2 ∷ []) ∷ [] ∷ (3 ∷ []) ∷ [])

-- the first to be woken is in front, and nothing is parked on a semaphore that the yard hasn't
parked_on_each : (parked_on yard 0 ≡ 1 ∷ 2 ∷ []) × (parked_on yard 1 ≡ []) × (parked_on yard 2 ≡ 3 ∷ []) × (parked_on yard 3 ≡ [])
parked_on_each = (refl, refl, refl, refl)

-- one list changes, and nothing where there is none
with_one_list_changed : (with_parked yard 0 (7 ∷ []) ≡ yard_view 5 ((7 ∷ []) ∷ [] ∷ (3 ∷ []) ∷ [])) × (with_parked yard 1 (7 ∷ []) ≡ yard_view 5 ((1 ∷ 2 ∷ []) ∷ (7 ∷ []) ∷ (3 ∷ []) ∷ []))
with_one_list_changed = (refl, refl)

with_no_list_for_it : with_parked yard 3 (7 ∷ []) ≡ yard
with_no_list_for_it = refl

-- its key is its home and how many semaphores it has, whatever is parked
key_of_its_home : ((yard_key yard).home ≡ 5) × ((yard_key yard).sems ≡ 3)
key_of_its_home = (refl, refl)

key_whatever_is_parked : yard_key yard ≡ yard_key {T = ℕ} {H = ℕ} (empty_yard 5 3)
key_whatever_is_parked = refl

none_parked_at_first : empty_yard {T = ℕ} {H = ℕ} 5 3 ≡ yard_view 5 ([] ∷ [] ∷ [] ∷ [])
none_parked_at_first = refl

-- A yard is known by what its lock was made with. A pass is for the yard of its own table, and has its slot.
module _ (shared : ParkYard ℕ ℕ) (pass : LockPass (YardView ℕ ℕ)) where
  opened_with_its_value : shared.lock.table.shared.key.value ≡ yard → opened_as shared ≡ yard
  opened_with_its_value value = value

  pass_of_its_yard : pass.seat.table_id ≡ shared.lock.table.shared.table_id → pass.seat.me.1 ≡ (0, None) ∷ [] → IsYardPass shared pass
  pass_of_its_yard table slot = (table, slot)

  pass_of_another_yard : pass.seat.table_id ≢ shared.lock.table.shared.table_id → ¬ IsYardPass shared pass
  pass_of_another_yard other is = other is.0

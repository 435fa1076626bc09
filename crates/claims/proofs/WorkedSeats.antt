-- What the words of locks, books, tickets and owners say, computed on records of which only some fields are known.
use Rattle.std.proofs.Common.{◌≡◌, ◌≢◌, ℕ, List, [], ◌∷◌, Option, Some, None, refl, ap, sym, ◌∙◌, arith}
use Rattle.std.proofs.lemmas.Option.{none-some}
use Rattle.atomic_table.specs.Seated.{TableId}
use Rattle.keyed_lock.specs.declared.lock.KeyedLock.{KeyedLock}
use Rattle.keyed_lock.specs.declared.lock.LockPass.{LockPass}
use Rattle.keyed_lock.specs.Locks.{made_with, IsLockPass}
use Rattle.tickets.specs.Books.{book_state, ticket_state}
use Rattle.ready_deques.specs.declared.ready.Ready.{Ready}
use Rattle.ready_deques.specs.Limits.{max_workers}
use Rattle.ready_deques.specs.Lists.{tag_of, owner_state, IsOwnerOf}

abbrev first_slot : List (ℕ × Option ℕ) → ℕ
first_slot [] = 0
first_slot (slot ∷ slots) = slot.0

abbrev first_value : List (ℕ × Option ℕ) → Option ℕ
first_value [] = None
first_value (slot ∷ slots) = slot.1

-- A lock was made with the value of its key. A pass is for the lock of its own table, and has slot 0 with nothing in
-- it.
module _ (lock : KeyedLock ℕ) (pass : LockPass ℕ) where
  value_of_its_key : lock.table.shared.key.value ≡ 7 → (made_with lock ≡ 7) × ¬ (made_with lock ≡ 8)
  value_of_its_key seven = (seven, λ eight. absurd (omega (arith, seven, eight)))

  pass_of_its_lock : pass.seat.table_id ≡ lock.table.shared.table_id → pass.seat.me.1 ≡ (0, None) ∷ [] → IsLockPass lock pass
  pass_of_its_lock table slot = (table, slot)

  pass_of_another_lock : pass.seat.table_id ≢ lock.table.shared.table_id → ¬ IsLockPass lock pass
  pass_of_another_lock other is = other is.0

  pass_without_its_slot : pass.seat.me.1 ≡ [] → ¬ IsLockPass lock pass
  pass_without_its_slot none is = let slot = is.1 in absurd (cc)

  pass_with_a_value : pass.seat.me.1 ≡ (0, Some 7) ∷ [] → ¬ IsLockPass lock pass
  pass_with_a_value value is = absurd (none-some 7 (sym (ap first_value (sym value ∙ is.1))))

  pass_with_another_slot : pass.seat.me.1 ≡ (1, None) ∷ [] → ¬ IsLockPass lock pass
  pass_with_another_slot other is = absurd (omega (arith, ap first_slot (sym other ∙ is.1)))

-- A book is of its register and has its items, some of which aren't outstanding any more; a ticket has its own number.
module _ (r s : TableId) (other : s ≢ r) where
  book_with_its_items : ((book_state {X = ℕ} r (Some 7 ∷ None ∷ [])).register ≡ r) × ((book_state {X = ℕ} r (Some 7 ∷ None ∷ [])).items ≡ Some 7 ∷ None ∷ [])
  book_with_its_items = (refl, refl)

  book_of_another_register : ¬ ((book_state {X = ℕ} s (Some 7 ∷ [])).register ≡ r)
  book_of_another_register is = other is

  ticket_with_its_item : ((ticket_state {X = ℕ} r 3 7).register ≡ r) × ((ticket_state {X = ℕ} r 3 7).number ≡ 3) × ((ticket_state {X = ℕ} r 3 7).item ≡ 7)
  ticket_with_its_item = (refl, refl, refl)

  ticket_of_another_register : ¬ ((ticket_state {X = ℕ} s 3 7).register ≡ r)
  ticket_of_another_register is = other is

-- Sixteen workers may share a list.
greatest_workers : max_workers ≡ 16
greatest_workers = refl

-- An owner of a list has its tag and counts with its word, however often it found the word 0.
module _ {T : Type 0} (ready : Ready T) where
  owner_of_its_list : (count : ℕ) → IsOwnerOf ready (owner_state (tag_of ready) ready.counter.table.shared.table_id count)
  owner_of_its_list count = (refl, refl)

  tag_of_its_list : ready.tag.numbers ≡ 4 ∷ 5 ∷ [] → tag_of ready ≡ 4 ∷ 5 ∷ []
  tag_of_its_list tag = tag

  owner_of_another_tag : (tag : List ℕ) → tag ≢ tag_of ready → ¬ IsOwnerOf ready (owner_state tag ready.counter.table.shared.table_id 5)
  owner_of_another_tag tag other is = other is.0

  owner_of_another_word : (word : TableId) → word ≢ ready.counter.table.shared.table_id → ¬ IsOwnerOf ready (owner_state (tag_of ready) word 5)
  owner_of_another_word word other is = other is.1

zeros_of_its_owner : (word : TableId) → ((owner_state (4 ∷ []) word 5).zeros ≡ 5) × ((owner_state (4 ∷ []) word 5).tag ≡ 4 ∷ []) × ((owner_state (4 ∷ []) word 5).counts ≡ word)
zeros_of_its_owner word = (refl, refl, refl)

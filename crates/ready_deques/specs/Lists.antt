-- Lists and their owners, as contracts see them.
use Rattle.std.specs.Prelude.{◌≡◌, ℕ, List}
use Rattle.atomic_table.specs.Seated.{TableId}
use Rattle.ready_deques.specs.declared.ready.Ready.{Ready}

-- the tag that each item of a list has
abbrev pub tag_of : {T : Type 0} → Ready T → List ℕ
tag_of ready = ready.tag.numbers

-- The tag of an owner's list, the table of its count word, and how many loads of that word by this owner found 0. The
-- word is never below the number of items that are queued
pub record OwnerState : Type 0 where
  pub tag : List ℕ
  pub counts : TableId
  pub zeros : ℕ

abbrev pub owner_state : List ℕ → TableId → ℕ → OwnerState
owner_state t c n = record { tag = t; counts = c; zeros = n }

-- it is an owner of this list
abbrev pub IsOwnerOf : {T : Type 0} → Ready T → OwnerState → Type 0
IsOwnerOf ready owner = (owner.tag ≡ ready.tag.numbers) × (owner.counts ≡ ready.counter.table.shared.table_id)

-- The rule of a lock's table: what its word says of its slot.
use Rattle.std.specs.Prelude.{◌≡◌, ℕ, zero, suc, List, [], ◌∷◌, Option, Some, slice_get}
use mathlib.Core.Option.{some, none}
use mathlib.Core.Option as core
use Rattle.std.specs.declared.snapshot.Snapshot.{Snapshot}
use Rattle.atomic_table.specs.Table.{Me}

module _ {T C : Type 0} (key : T → C) where
  -- by the word and the slots: the value is in the slot and has the key, or the slot is out
  abbrev pub IsKeptAt : T → Option ℕ → List (core.Option (Option T)) → Type 0
  IsKeptAt first (Some zero) (some (Some value) ∷ []) = key value ≡ key first
  IsKeptAt first (Some (suc _)) (none ∷ []) = Unit {0}
  IsKeptAt first _ _ = ⊥

  abbrev pub KeepsLock : T → List ℕ → List (core.Option (Option T)) → Type 0
  KeepsLock first words slots = IsKeptAt first (slice_get words 8) slots

  -- a seat holds the slot, with a value that has the key
  abbrev pub HasValue : T → List (ℕ × Option T) → Type 0
  HasValue first ((zero, Some value) ∷ []) = key value ≡ key first
  HasValue first _ = ⊥

  -- where the word was 0 the seat holds the slot, and otherwise what it held
  abbrev pub TakesIfFree : Me (Option T) (Snapshot T) → ℕ → Me (Option T) (Snapshot T) → Type 0
  TakesIfFree me zero me' = HasValue me.0.value me'.1
  TakesIfFree me (suc n) me' = me' ≡ me

-- Each step of a lock keeps its rule.
use Rattle.std.proofs.Common.{◌≡◌, ◌≢◌, ℕ, zero, suc, List, [], ◌∷◌, Option, Some, refl, sym, ap, ◌∙◌, subst}
use Rattle.std.specs.Prelude.{slice_set, slice_get, slice_index, ◌==◌}
use Rattle.std.specs.declared.snapshot.Snapshot.{Snapshot}
use mathlib.Core.Option.{some, none}
use mathlib.Core.Option as core
use prog.Atomic.{either}
use Rattle.atomic_table.specs.Table.{State, Me, Act, keeps, takes, gives, Valid, homes_after, carried_after, Allows}
use Rattle.atomic_table.proofs.Lists.{exchanged}
use Rattle.keyed_lock.specs.inside.Rule.{KeepsLock, IsKeptAt, HasValue, TakesIfFree}

-- the word in use, before and after it is written
word_found : (words : List ℕ) (i n : ℕ) → slice_get words i ≡ Some n → slice_index words i ≡ n
word_found [] i n e = absurd (cc)
word_found (w ∷ ws) zero n e = cc
word_found (w ∷ ws) (suc i) n e = word_found ws i n e

word_set : (words : List ℕ) (i n m : ℕ) → slice_get words i ≡ Some n → slice_get (slice_set words i m) i ≡ Some m
word_set [] i n m e = absurd (cc)
word_set (w ∷ ws) zero n m e = refl
word_set (w ∷ ws) (suc i) n m e = word_set ws i n m e

-- what is not 0 stays so, and 0 becomes 1
abbrev pub IsMore : ℕ → Type 0
IsMore n = (k : ℕ) × (n ≡ suc k)

not_zero : (n : ℕ) → n ≢ 0 → IsMore n
not_zero zero ne = absurd (ne refl)
not_zero (suc n) ne = (n, refl)

pub claimed : (n : ℕ) → IsMore (either (n == 0) 1 n)
claimed n = exchanged n 0 1 IsMore (λ _. (0, refl)) (not_zero n)

module _ {T C : Type 0} (key : T → C) where
  abbrev holds : T → State (Option T) (Snapshot T) → Type 0
  holds first s = KeepsLock key first s.words s.homes

  -- What a step on the word makes of the rule
  abbrev Keeps : T → List ℕ → List (core.Option (Option T)) → List (ℕ × Option T) → ℕ → (Snapshot T → Act (Option T) → Type 0) → Type 0
  Keeps first words homes held m then =
      (w : Snapshot T) × (a : Act (Option T)) × Valid homes held a × KeepsLock key first (slice_set words 8 m) (homes_after homes held a) × then w a

  -- A seat that holds nothing writes something that is not 0, and holds the slot if it found 0
  takes_it : (first : Snapshot T) (slots id : ℕ) (f : ℕ → ℕ) → ((n : ℕ) → IsMore (f n)) → Allows (holds first.value) slots id (first, []) 8 f (TakesIfFree key (first, []))
  takes_it first slots id f more s kept len at small = by_case (slice_get s.words 8) s.homes refl kept
    where
      by_case : (word : Option ℕ) (homes : List (core.Option (Option T))) → slice_get s.words 8 ≡ word → IsKeptAt key first.value word homes
          → Keeps first.value s.words homes [] (f (slice_index s.words 8)) (λ w a. TakesIfFree key (first, []) (slice_index s.words 8) (w, carried_after [] a))
      by_case (Some zero) (some (Some value) ∷ []) e h =
          let m = more (slice_index s.words 8) in (
            first,
            takes 0 (Some value),
            refl,
            subst (λ word. IsKeptAt key first.value word (none ∷ [])) (sym (word_set s.words 8 0 _ e ∙ ap Some m.1)) tt,
            subst (λ n. TakesIfFree key (first, []) n (first, (0, Some value) ∷ [])) (sym (word_found s.words 8 0 e)) h,
          )
      by_case (Some (suc n)) (none ∷ []) e h =
          let m = more (slice_index s.words 8) in (
            first,
            keeps,
            tt,
            subst (λ word. IsKeptAt key first.value word (none ∷ [])) (sym (word_set s.words 8 (suc n) _ e ∙ ap Some m.1)) tt,
            subst (λ k. TakesIfFree key (first, []) k (first, [])) (sym (word_found s.words 8 (suc n) e)) refl,
          )
      by_case _ _ e h = absurd h

  -- A seat that holds the slot, with a value that has the key, writes 0
  gives_it : (first : T) (slots id : ℕ) (view : Snapshot T) (value : T) → key value ≡ key first
      → Allows (holds first) slots id (view, (0, Some value) ∷ []) 8 (λ _. 0) (λ _ after. after.1 ≡ [])
  gives_it first slots id view value same s kept len at small = by_case (slice_get s.words 8) s.homes refl kept
    where
      given : (n : ℕ) → slice_get s.words 8 ≡ Some n → KeepsLock key first (slice_set s.words 8 0) (some (Some value) ∷ [])
      given n e = subst (λ word. IsKeptAt key first word (some (Some value) ∷ [])) (sym (word_set s.words 8 n 0 e)) same

      by_case : (word : Option ℕ) (homes : List (core.Option (Option T))) → slice_get s.words 8 ≡ word → IsKeptAt key first word homes
          → Keeps first s.words homes ((0, Some value) ∷ []) 0 (λ w a. carried_after ((0, Some value) ∷ []) a ≡ [])
      by_case (Some zero) (some (Some x) ∷ []) e h = (view, gives, tt, given 0 e, refl)
      by_case (Some (suc n)) (none ∷ []) e h = (view, gives, tt, given (suc n) e, refl)
      by_case _ _ e h = absurd h

  pub gives_back : (first : T) (slots id : ℕ) (me : Me (Option T) (Snapshot T)) (value : T) → me.1 ≡ (0, Some value) ∷ [] → key value ≡ key first
      → Allows (holds first) slots id me 8 (λ _. 0) (λ _ after. after.1 ≡ [])
  gives_back first slots id me value is same =
      subst (λ (held : List (ℕ × Option T)). Allows (holds first) slots id (me.0, held) 8 (λ _. 0) (λ _ after. after.1 ≡ [])) (sym is) (gives_it first slots id me.0 value same)

  -- the steps of a seat with this view, as a call asks for them
  pub claims : (first : Snapshot T) (slots id : ℕ) (me : Me (Option T) (Snapshot T)) → me ≡ (first, []) → (f : ℕ → ℕ) → ((n : ℕ) → IsMore (f n)) → Allows (holds first.value) slots id me 8 f (TakesIfFree key me)
  claims first slots id me is f more = subst (λ (m : Me (Option T) (Snapshot T)). Allows (holds first.value) slots id m 8 f (TakesIfFree key m)) (sym is) (takes_it first slots id f more)

  -- what a seat holds that took the slot
  pub held_value : (first : T) (held : List (ℕ × Option T)) → HasValue key first held → (value : T) × (held ≡ (0, Some value) ∷ []) × (key value ≡ key first)
  held_value first ((zero, Some value) ∷ []) h = (value, refl, h)
  held_value first _ h = absurd h

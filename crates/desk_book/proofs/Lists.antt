-- What stands where in a list that has one item more, or another item at one place.
use Rattle.std.proofs.Common.{◌≡◌, ◌≢◌, ◌⊎◌, inl, inr, ℕ, zero, suc, ◌<◌, ◌≤◌, List, [], ◌∷◌, ◌++◌, length, set, Option, Some, None, refl, ap, subst, arith}
use Rattle.std.specs.Prelude.{slice_get, IsSomeAnd}

pub some_same : {X : Type 0} {x y : X} → Some x ≡ Some y → x ≡ y
some_same {X} {x} {y} e = ap from e
  where
    from : Option X → X
    from None = x
    from (Some z) = z

module _ {X : Type 0} where
  -- the item at a place, after one item more
  pub get_push_cases : (xs : List X) (x y : X) (k : ℕ) → slice_get (xs ++ x ∷ []) k ≡ Some y → (slice_get xs k ≡ Some y) ⊎ ((k ≡ length xs) × (x ≡ y))
  get_push_cases [] x y zero at = inr (refl, some_same at)
  get_push_cases [] x y (suc k) at = absurd (cc)
  get_push_cases (z ∷ zs) x y zero at = inl at
  get_push_cases (z ∷ zs) x y (suc k) at = one_up (get_push_cases zs x y k at)
    where
      one_up : (slice_get zs k ≡ Some y) ⊎ ((k ≡ length zs) × (x ≡ y)) → (slice_get zs k ≡ Some y) ⊎ ((suc k ≡ length (z ∷ zs)) × (x ≡ y))
      one_up (inl same) = inl same
      one_up (inr last) = inr (ap suc last.0, last.1)

  pub get_in_range : (xs : List X) (k : ℕ) (y : X) → slice_get xs k ≡ Some y → k < length xs
  get_in_range [] k y at = absurd (cc)
  get_in_range (z ∷ zs) zero y at = omega arith
  get_in_range (z ∷ zs) (suc k) y at = let below = get_in_range zs k y at in omega arith

  pub get_past_end : (xs : List X) (k : ℕ) → length xs ≤ k → slice_get xs k ≡ None
  get_past_end [] k past = refl
  get_past_end (z ∷ zs) zero past = absurd (omega arith)
  get_past_end (z ∷ zs) (suc k) past = get_past_end zs k (omega arith)

  pub not_none : (xs : List X) (k : ℕ) → k < length xs → slice_get xs k ≡ None → ⊥
  not_none [] k below is = absurd (omega arith)
  not_none (z ∷ zs) zero below is = absurd (cc)
  not_none (z ∷ zs) (suc k) below is = not_none zs k (omega arith) is

  pub get_at_end : (xs : List X) (x : X) → slice_get (xs ++ x ∷ []) (length xs) ≡ Some x
  get_at_end [] x = refl
  get_at_end (z ∷ zs) x = get_at_end zs x

  pub get_kept : (xs : List X) (x y : X) (k : ℕ) → slice_get xs k ≡ Some y → slice_get (xs ++ x ∷ []) k ≡ Some y
  get_kept [] x y k at = absurd (cc)
  get_kept (z ∷ zs) x y zero at = at
  get_kept (z ∷ zs) x y (suc k) at = get_kept zs x y k at

  pub some_kept : (P : X → Type 0) (xs : List X) (x : X) (k : ℕ) → IsSomeAnd (slice_get xs k) P → IsSomeAnd (slice_get (xs ++ x ∷ []) k) P
  some_kept P [] x k h = absurd h
  some_kept P (z ∷ zs) x zero h = h
  some_kept P (z ∷ zs) x (suc k) h = some_kept P zs x k h

  pub some_at : (P : X → Type 0) (o : Option X) (y : X) → o ≡ Some y → IsSomeAnd o P → P y
  some_at P o y is h = subst (λ q. IsSomeAnd q P) is h

  -- another item at one place
  pub get_set_same : (xs : List X) (k : ℕ) (x y : X) → slice_get xs k ≡ Some x → slice_get (set xs k y) k ≡ Some y
  get_set_same [] k x y at = absurd (cc)
  get_set_same (z ∷ zs) zero x y at = refl
  get_set_same (z ∷ zs) (suc k) x y at = get_set_same zs k x y at

  pub get_set_there : (xs : List X) (k : ℕ) (y : X) → k < length xs → slice_get (set xs k y) k ≡ Some y
  get_set_there [] k y below = absurd (omega arith)
  get_set_there (z ∷ zs) zero y below = refl
  get_set_there (z ∷ zs) (suc k) y below = get_set_there zs k y (omega arith)

  pub get_set_other : (xs : List X) (k m : ℕ) (y : X) → m ≢ k → slice_get (set xs k y) m ≡ slice_get xs m
  get_set_other [] k m y other = refl
  get_set_other (z ∷ zs) zero zero y other = absurd (other refl)
  get_set_other (z ∷ zs) zero (suc m) y other = refl
  get_set_other (z ∷ zs) (suc k) zero y other = refl
  get_set_other (z ∷ zs) (suc k) (suc m) y other = get_set_other zs k m y (λ e. other (ap suc e))

  pub get_cleared : (items : List (Option X)) (n k : ℕ) (x : X) → slice_get (set items n None) k ≡ Some (Some x) → slice_get items k ≡ Some (Some x)
  get_cleared [] n k x at = at
  get_cleared (y ∷ ys) zero zero x at = absurd (cc)
  get_cleared (y ∷ ys) zero (suc k) x at = at
  get_cleared (y ∷ ys) (suc n) zero x at = at
  get_cleared (y ∷ ys) (suc n) (suc k) x at = get_cleared ys n k x at

  pub not_cleared : (items : List (Option X)) (n : ℕ) (x : X) → slice_get (set items n None) n ≡ Some (Some x) → ⊥
  not_cleared [] n x at = absurd (cc)
  not_cleared (y ∷ ys) zero x at = absurd (cc)
  not_cleared (y ∷ ys) (suc n) x at = not_cleared ys n x at

  pub get_there : (xs : List X) (k : ℕ) → k < length xs → (x : X) × (slice_get xs k ≡ Some x)
  get_there [] k below = absurd (omega arith)
  get_there (x ∷ xs) zero below = (x, refl)
  get_there (x ∷ xs) (suc k) below = get_there xs k (omega arith)

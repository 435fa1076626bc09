-- The items of a book, after one more was issued and after one was redeemed.
use Rattle.std.proofs.Common.{◌≡◌, ◌≢◌, ℕ, zero, suc, ◌+◌, Bool, true, false, eqb, List, [], ◌∷◌, ◌++◌, length, set, Option, Some, None, refl, sym, ap, subst, arith}
use Rattle.std.specs.Prelude.{slice_get}
use Rattle.std.proofs.lemmas.Bool.Decides.{nat_tests}
use Rattle.tickets.specs.inside.Views.{times_out}
use Rattle.tickets.proofs.Named.{one}

module _ {X : Type 0} where
  abbrev out_at : List (Option X) → ℕ → ℕ
  out_at items n = times_out (slice_get items n)

  -- one more
  times_out-last : (items : List (Option X)) (x : X) → out_at (items ++ Some x ∷ []) (length items) ≡ out_at items (length items) + 1
  times_out-last [] x = refl
  times_out-last (y ∷ ys) x = times_out-last ys x

  slice_get-not_last : (items : List (Option X)) (x : X) (n : ℕ) → n ≢ length items → slice_get (items ++ Some x ∷ []) n ≡ slice_get items n
  slice_get-not_last [] x zero ne = absurd (ne refl)
  slice_get-not_last [] x (suc n) ne = refl
  slice_get-not_last (y ∷ ys) x zero ne = refl
  slice_get-not_last (y ∷ ys) x (suc n) ne = slice_get-not_last ys x n (λ e. ne (ap suc e))

  pub slice_get-last : (items : List (Option X)) (x : X) → slice_get (items ++ Some x ∷ []) (length items) ≡ Some (Some x)
  slice_get-last [] x = refl
  slice_get-last (y ∷ ys) x = slice_get-last ys x

  -- what is outstanding stays so
  pub slice_get-longer : (items : List (Option X)) (x y : X) (n : ℕ) → slice_get items n ≡ Some (Some y) → slice_get (items ++ Some x ∷ []) n ≡ Some (Some y)
  slice_get-longer [] x y n h = absurd (cc)
  slice_get-longer (z ∷ zs) x y zero h = h
  slice_get-longer (z ∷ zs) x y (suc n) h = slice_get-longer zs x y n h

  pub times_out-longer : (items : List (Option X)) (x : X) (n : ℕ) → out_at (items ++ Some x ∷ []) n ≡ out_at items n + one (eqb (length items) n)
  times_out-longer items x n = by_test (eqb (length items) n) refl
    where
      by_test : (b : Bool) → eqb (length items) n ≡ b → out_at (items ++ Some x ∷ []) n ≡ out_at items n + one b
      by_test true is =
          let e : length items ≡ n = grind (arith, nat_tests) in
          subst (λ k. out_at (items ++ Some x ∷ []) k ≡ out_at items k + 1) e (times_out-last items x)
      by_test false is =
          let s : out_at (items ++ Some x ∷ []) n ≡ out_at items n = ap times_out (slice_get-not_last items x n (λ e. absurd (grind (arith, nat_tests)))) in
          omega arith

  -- one less
  times_out-cleared : (items : List (Option X)) (n : ℕ) (x : X) → slice_get items n ≡ Some (Some x) → out_at (set items n None) n + 1 ≡ out_at items n
  times_out-cleared [] n x h = absurd (cc)
  times_out-cleared (y ∷ ys) zero x h = sym (ap times_out h)
  times_out-cleared (y ∷ ys) (suc n) x h = times_out-cleared ys n x h

  pub slice_get-else : (items : List (Option X)) (n m : ℕ) → m ≢ n → slice_get (set items n None) m ≡ slice_get items m
  slice_get-else [] n m ne = refl
  slice_get-else (y ∷ ys) zero zero ne = absurd (ne refl)
  slice_get-else (y ∷ ys) zero (suc m) ne = refl
  slice_get-else (y ∷ ys) (suc n) zero ne = refl
  slice_get-else (y ∷ ys) (suc n) (suc m) ne = slice_get-else ys n m (λ e. ne (ap suc e))

  pub times_out-set : (items : List (Option X)) (n : ℕ) (x : X) (m : ℕ) → slice_get items n ≡ Some (Some x) → out_at (set items n None) m + one (eqb n m) ≡ out_at items m
  times_out-set items n x m h = by_test (eqb n m) refl
    where
      by_test : (b : Bool) → eqb n m ≡ b → out_at (set items n None) m + one b ≡ out_at items m
      by_test true is =
          let e : n ≡ m = grind (arith, nat_tests) in
          subst (λ k. out_at (set items n None) k + 1 ≡ out_at items k) e (times_out-cleared items n x h)
      by_test false is =
          let s : out_at (set items n None) m ≡ out_at items m = ap times_out (slice_get-else items n m (λ e. absurd (grind (arith, nat_tests)))) in
          omega arith

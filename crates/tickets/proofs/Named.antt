-- How many views name a number.
use Rattle.std.proofs.Common.{◌≡◌, ◌≢◌, ℕ, zero, suc, ◌+◌, ◌≤◌, Bool, true, cond, List, [], ◌∷◌, set, sym, ap, ◌∙◌, arith}
use Rattle.std.specs.Prelude.{count_by}
use Rattle.std.proofs.lemmas.List.Sums.{sum_by-cons}
use mathlib.Core.Option.{some, some-ne-none, some-injective}
use lib.ListN.{get_elem?}
use Rattle.atomic_table.proofs.Lists.{set_else}
use Rattle.tickets.specs.declared.view.View.{View}
use Rattle.tickets.specs.declared.view.View.TheVariants.{Spent}
use Rattle.tickets.specs.inside.Views.{names}

abbrev pub one : Bool → ℕ
one b = cond b 1 0

module _ {X : Type 0} where
  -- after one view changed
  pub count_by-set : (p : View X → Bool) (l : List (View X)) (i : ℕ) (v w : View X) → get_elem? l i ≡ some v → count_by p (set l i w) + one (p v) ≡ count_by p l + one (p w)
  count_by-set p [] i v w e = absurd (some-ne-none v (sym e))
  count_by-set p (x ∷ xs) zero v w e =
      let a : count_by p (w ∷ xs) ≡ one (p w) + count_by p xs = sum_by-cons (λ y. one (p y)) w xs in
      let b : count_by p (x ∷ xs) ≡ one (p x) + count_by p xs = sum_by-cons (λ y. one (p y)) x xs in
      let c : one (p x) ≡ one (p v) = ap (λ y. one (p y)) (some-injective x v e) in
      omega arith
  count_by-set p (x ∷ xs) (suc i) v w e =
      let r = count_by-set p xs i v w e in
      let a : count_by p (x ∷ set xs i w) ≡ one (p x) + count_by p (set xs i w) = sum_by-cons (λ y. one (p y)) x (set xs i w) in
      let b : count_by p (x ∷ xs) ≡ one (p x) + count_by p xs = sum_by-cons (λ y. one (p y)) x xs in
      omega arith

  one_named : (n : ℕ) (l : List (View X)) (i : ℕ) (v : View X) → get_elem? l i ≡ some v → names n v ≡ true → 1 ≤ count_by (names n) l
  one_named n l i v at is =
      let a : count_by (names n) (set l i Spent) + one (names n v) ≡ count_by (names n) l + 0 = count_by-set (names n) l i v Spent at in
      let b : one (names n v) ≡ 1 = ap one is in
      omega arith

  -- two seats name it
  pub two_named : (n : ℕ) (l : List (View X)) (i j : ℕ) (v u : View X) → j ≢ i → get_elem? l i ≡ some v → get_elem? l j ≡ some u → names n v ≡ true → names n u ≡ true → 2 ≤ count_by (names n) l
  two_named n l i j v u apart at there is also =
      let a : count_by (names n) (set l i Spent) + one (names n v) ≡ count_by (names n) l + 0 = count_by-set (names n) l i v Spent at in
      let b : one (names n v) ≡ 1 = ap one is in
      let c = one_named n (set l i Spent) j u (set_else l i j Spent apart ∙ there) also in
      omega arith

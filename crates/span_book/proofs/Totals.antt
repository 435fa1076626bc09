-- What all views count, after some changed.
use Rattle.std.proofs.Common.{◌≡◌, ◌≢◌, ℕ, zero, suc, ◌+◌, List, [], ◌∷◌, ◌++◌, set, refl, sym, ap, subst, ⊎_elim, arith}
use mathlib.Core.Option.{some, some-injective, some-ne-none}
use lib.ListN.{get_elem?}
use Rattle.atomic_table.proofs.Lists.{at_set, at_snoc}
use Rattle.span_book.specs.declared.view.SpanView.{SpanView}
use Rattle.span_book.specs.inside.SpanViews.{IsBacked, KeepsBook, at, back_at, noted_of, opened_at, runs_at, tellers_of, told_of, total}

pub total_set : (f : SpanView → ℕ) (views : List SpanView) (i : ℕ) (v w : SpanView) → get_elem? views i ≡ some v → total f (set views i w) + f v ≡ total f views + f w
total_set f [] i v w e = absurd (some-ne-none v (sym e))
total_set f (x ∷ xs) zero v w e = let is : f x ≡ f v = ap f (some-injective x v e) in omega arith
total_set f (x ∷ xs) (suc i) v w e = omega (arith, total_set f xs i v w e)

pub total_push : (f : SpanView → ℕ) (views : List SpanView) (w : SpanView) → total f (views ++ w ∷ []) ≡ total f views + f w
total_push f [] w = omega arith
total_push f (x ∷ xs) w = omega (arith, total_push f xs w)

-- where nothing is counted in all, no view counts
pub none_counts : (f : SpanView → ℕ) (views : List SpanView) → total f views ≡ 0 → (i : ℕ) (v : SpanView) → get_elem? views i ≡ some v → f v ≡ 0
none_counts f [] none i v e = absurd (some-ne-none v (sym e))
none_counts f (x ∷ xs) none zero v e = let is : f x ≡ f v = ap f (some-injective x v e) in omega arith
none_counts f (x ∷ xs) none (suc i) v e = none_counts f xs (omega arith) i v e

pub counts_none : (f : SpanView → ℕ) (views : List SpanView) → ((i : ℕ) (v : SpanView) → get_elem? views i ≡ some v → f v ≡ 0) → total f views ≡ 0
counts_none f [] each = refl
counts_none f (x ∷ xs) each =
    let mine : f x ≡ 0 = each 0 x refl in
    let others : total f xs ≡ 0 = counts_none f xs (λ i v e. each (suc i) v e) in
    omega arith

pub at_sum : (d e m n : ℕ) → at d e (m + n) ≡ at d e m + at d e n
at_sum zero zero m n = refl
at_sum zero (suc e) m n = refl
at_sum (suc d) zero m n = refl
at_sum (suc d) (suc e) m n = at_sum d e m n

pub at_none : (d e : ℕ) → at d e 0 ≡ 0
at_none zero zero = refl
at_none zero (suc e) = refl
at_none (suc d) zero = refl
at_none (suc d) (suc e) = at_none d e

pub at_same : (d n : ℕ) → at d d n ≡ n
at_same zero n = refl
at_same (suc d) n = at_same d n

-- what some views counted, and what others do in their place
pub record Balances (was now : (SpanView → ℕ) → ℕ) : Type 0 where
  pub tellers : now tellers_of ≡ was tellers_of
  pub outermost : now (runs_at 0) ≡ was (runs_at 0)
  pub spans : now told_of + was noted_of ≡ was told_of + now noted_of
  pub inside : (d : ℕ) → now (runs_at (suc d)) + now (back_at d) + was (opened_at d) ≡ was (runs_at (suc d)) + was (back_at d) + now (opened_at d)

pub keeps : (tellers : ℕ) (views views' : List SpanView) (was now : (SpanView → ℕ) → ℕ) → KeepsBook tellers views → Balances was now
    → ((f : SpanView → ℕ) → total f views' + was f ≡ total f views + now f)
    → ((i : ℕ) (v : SpanView) → get_elem? views' i ≡ some v → IsBacked v) → KeepsBook tellers views'
keeps tellers views views' was now kept balances change each = record {
  each = each;
  all_tellers = omega (arith, change tellers_of, balances.tellers, kept.all_tellers);
  outermost = omega (arith, change (runs_at 0), balances.outermost, kept.outermost);
  spans = omega (arith, change told_of, change noted_of, balances.spans, kept.spans);
  inside = λ d. omega (arith, change (runs_at (suc d)), change (back_at d), change (opened_at d), balances.inside d, kept.inside d);
}

-- each view is backed after one changed, or one was added
pub backed_set : (views : List SpanView) (id : ℕ) (w : SpanView) → ((i : ℕ) (v : SpanView) → get_elem? views i ≡ some v → IsBacked v) → IsBacked w
    → (i : ℕ) (v : SpanView) → get_elem? (set views id w) i ≡ some v → IsBacked v
backed_set views id w each mine i v e =
    ⊎_elim
    (λ (x : (i ≡ id) × (w ≡ v)). subst IsBacked x.1 mine)
    (λ (x : (i ≢ id) × (get_elem? views i ≡ some v)). each i v x.1)
    (at_set views id i w v e)

pub backed_push : (views : List SpanView) (w : SpanView) → ((i : ℕ) (v : SpanView) → get_elem? views i ≡ some v → IsBacked v) → IsBacked w
    → (i : ℕ) (v : SpanView) → get_elem? (views ++ w ∷ []) i ≡ some v → IsBacked v
backed_push views w each mine i v e =
    ⊎_elim (λ was. each i v was) (λ (same : w ≡ v). subst IsBacked same mine) (at_snoc views w v i e)

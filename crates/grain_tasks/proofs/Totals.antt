-- What all views count, after some changed.
use Rattle.std.proofs.Common.{◌≡◌, ℕ, zero, suc, ◌+◌, ◌≤◌, List, [], ◌∷◌, ◌++◌, set, refl, sym, ap, arith}
use mathlib.Core.Option.{some, some-injective, some-ne-none}
use lib.ListN.{get_elem?}
use Rattle.grain_tasks.specs.declared.row_view.View.{View}
use Rattle.grain_tasks.specs.inside.Views.{seats_of, total}

pub total_set : (f : View → ℕ) (views : List View) (i : ℕ) (v w : View) → get_elem? views i ≡ some v → total f (set views i w) + f v ≡ total f views + f w
total_set f [] i v w e = absurd (some-ne-none v (sym e))
total_set f (x ∷ xs) zero v w e = let is : f x ≡ f v = ap f (some-injective x v e) in omega arith
total_set f (x ∷ xs) (suc i) v w e = omega (arith, total_set f xs i v w e)

pub total_push : (f : View → ℕ) (views : List View) (w : View) → total f (views ++ w ∷ []) ≡ total f views + f w
total_push f [] w = omega arith
total_push f (x ∷ xs) w = omega (arith, total_push f xs w)

pub one_within : (f : View → ℕ) (views : List View) (i : ℕ) (v : View) → get_elem? views i ≡ some v → f v ≤ total f views
one_within f [] i v e = absurd (some-ne-none v (sym e))
one_within f (x ∷ xs) zero v e = let is : f x ≡ f v = ap f (some-injective x v e) in omega arith
one_within f (x ∷ xs) (suc i) v e = omega (arith, one_within f xs i v e)

-- what is at most another number of each view is so of all
pub total_within : (f g : View → ℕ) (views : List View) → ((i : ℕ) (v : View) → get_elem? views i ≡ some v → f v ≤ g v) → total f views ≤ total g views
total_within f g [] each = omega arith
total_within f g (x ∷ xs) each = omega (arith, each 0 x refl, total_within f g xs (λ i v e. each (suc i) v e))

-- where nothing is counted of what has no seats
abbrev pub IsIdle : (View → ℕ) → List View → Type 0
IsIdle f views = (i : ℕ) (v : View) → get_elem? views i ≡ some v → v.seats ≡ 0 → f v ≡ 0

none_idle : (f : View → ℕ) (views : List View) → IsIdle f views → total seats_of views ≡ 0 → total f views ≡ 0
none_idle f [] idle none = refl
none_idle f (x ∷ xs) idle none =
    let mine : f x ≡ 0 = idle 0 x refl (omega arith) in
    let others : total f xs ≡ 0 = none_idle f xs (λ i v e. idle (suc i) v e) (omega arith) in
    omega arith

-- the view that stands for all seats counts all
pub only_one : (f : View → ℕ) (views : List View) (i : ℕ) (v : View) → get_elem? views i ≡ some v → IsIdle f views → total seats_of views ≡ v.seats → total f views ≡ f v
only_one f [] i v e idle all = absurd (some-ne-none v (sym e))
only_one f (x ∷ xs) zero v e idle all =
    let is : f x ≡ f v = ap f (some-injective x v e) in
    let seats : x.seats ≡ v.seats = ap seats_of (some-injective x v e) in
    let others : total f xs ≡ 0 = none_idle f xs (λ j u e'. idle (suc j) u e') (omega arith) in
    omega arith
only_one f (x ∷ xs) (suc i) v e idle all =
    let some_there : v.seats ≤ total seats_of xs = one_within seats_of xs i v e in
    let mine : f x ≡ 0 = idle 0 x refl (omega arith) in
    let others : total f xs ≡ f v = only_one f xs i v e (λ j u e'. idle (suc j) u e') (omega arith) in
    omega arith

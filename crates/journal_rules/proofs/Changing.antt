-- Counts of semaphores changed one after the other.
use Rattle.std.proofs.Common.{◌≡◌, ◌≢◌, ◌⊎◌, inl, inr, ℕ, zero, suc, ◌+◌, ◌<◌, ◌≤◌, Bool, true, false, ◌&&◌, ◌||◌, cond, eqb, List, [], ◌∷◌, ◌++◌, length, take, Result, Ok, Err, sym, refl, ap, ◌∙◌, subst, arith, get_or, set, length-set, get_or-set_same, get_or-set_other, is_ok}
use Rattle.std.specs.Prelude.{◌==◌}
use Rattle.std.specs.List.{list_any, AllByRecursion}
use Rattle.std.specs.List.Sorted.{IsStrictlyIncreasing, IsBinarySearchResult}
use Rattle.std.proofs.lemmas.List.Sorted.{searched}
use Rattle.std.proofs.lemmas.List.Elements.{recursion_from_All}
use Rattle.std.specs.Prelude.{MatchResult}
use Rattle.std.specs.Ordering.{nat_cmp}
use Rattle.std.proofs.lemmas.Bool.{cases_eq, cases_lt}
use Rattle.std.proofs.lemmas.Bool.Decides.{nat_tests}
use Rattle.std.proofs.lemmas.List.{take_more, get_or_default, get_or-take, length-take}
use Rattle.std.proofs.lemmas.List.Folds.{list_any-append}
use Rattle.std.proofs.lemmas.List.Kept.{AllPairs-from_increasing}
use Rattle.journal_rules.specs.declared.units.UnitCount.{UnitCount}
use Rattle.journal_rules.specs.inside.Units.{Changed}

abbrev one_if : Bool → ℕ
one_if b = cond b 1 0

-- a number above each of a list isn't among them
absent_above : (s : ℕ) (xs : List ℕ) → AllByRecursion (λ x. x < s) xs → list_any (λ r. r == s) xs ≡ false
absent_above s [] below = refl
absent_above s (x ∷ xs) below = let miss : eqb x s ≡ false = let b = below.0 in grind (arith, nat_tests) in rw miss (absent_above s xs below.1)

-- the next number of a rising list isn't among those before it
absent_before : (sems : List ℕ) (i s : ℕ) → IsStrictlyIncreasing sems → i < length sems → s ≡ get_or sems i 0 → list_any (λ r. r == s) (take i sems) ≡ false
absent_before sems i s rising within is =
    absent_above s (take i sems) (recursion_from_All (λ x. x < s) (take i sems) (λ k d below.
    let before : k < i = omega (arith, length-take i sems) in
    subst (λ (x : ℕ). x < s) (sym (get_or-take i sems k d before)) (omega (arith, AllPairs-from_increasing sems rising k i d before within, get_or_default sems i d 0 within))))

or_no : (b : Bool) → b || false ≡ b
or_no true = refl
or_no false = refl

-- no count is changed at first
pub changed_none : (change : UnitCount → UnitCount) (test : ℕ → Bool) (counts : List UnitCount) → Changed change test counts counts []
changed_none change test counts = record { len = refl; each = λ k d below. refl }

-- one semaphore more
pub changed_more : (change : UnitCount → UnitCount) (test : ℕ → Bool) (old now new : List UnitCount) (sems : List ℕ) (i s : ℕ) (d0 : UnitCount) → IsStrictlyIncreasing sems → i < length sems → s ≡ get_or sems i 0 → s < length old
    → Changed change test old now (take i sems) → new ≡ cond (test s) (set now s (change (get_or now s d0))) now → Changed change test old new (take (i + 1) sems)
changed_more change test old now new sems i s d0 rising within is in_range so_far new_is = record {
  len = ap length new_is ∙ same_length (test s) ∙ so_far.len;
  each = λ k d below. by_place k d below (cases_eq s k);
}
  where
    same_length : (b : Bool) → length (cond b (set now s (change (get_or now s d0))) now) ≡ length now
    same_length true = length-set now s (change (get_or now s d0))
    same_length false = refl

    taken_is : take (i + 1) sems ≡ take i sems ++ s ∷ []
    taken_is = take_more sems i 0 within ∙ ap (λ (x : ℕ). take i sems ++ x ∷ []) (sym is)

    any_is : (k : ℕ) → list_any (λ r. r == k) (take (i + 1) sems) ≡ list_any (λ r. r == k) (take i sems) || eqb s k
    any_is k = ap (λ xs. list_any (λ r. r == k) xs) taken_is ∙ list_any-append (λ r. r == k) (take i sems) (s ∷ []) ∙ ap (λ b. list_any (λ r. r == k) (take i sems) || b) (or_no (eqb s k))

    absent : list_any (λ r. r == s) (take i sems) ≡ false
    absent = absent_before sems i s rising within is

    here : (b : Bool) (d : UnitCount) → get_or (cond b (set now s (change (get_or now s d0))) now) s d ≡ cond b (change (get_or now s d)) (get_or now s d)
    here true d = get_or-set_same now s (change (get_or now s d0)) d (omega (arith, so_far.len)) ∙ ap change (get_or_default now s d0 d (omega (arith, so_far.len)))
    here false d = refl

    elsewhere : (b : Bool) (k : ℕ) (d : UnitCount) → k ≢ s → get_or (cond b (set now s (change (get_or now s d0))) now) k d ≡ get_or now k d
    elsewhere true k d other = get_or-set_other now s k (change (get_or now s d0)) d other
    elsewhere false k d other = refl

    by_place : (k : ℕ) (d : UnitCount) → k < length old → (s ≡ k) ⊎ (s ≢ k) → get_or new k d ≡ cond (list_any (λ r. r == k) (take (i + 1) sems) && test k) (change (get_or old k d)) (get_or old k d)
    by_place k d below (inl same) =
        subst (λ n. get_or new n d ≡ cond (list_any (λ r. r == n) (take (i + 1) sems) && test n) (change (get_or old n d)) (get_or old n d)) same
        (let hit : eqb s s ≡ true = grind (arith, nat_tests) in
        let was : get_or now s d ≡ get_or old s d = so_far.each s d in_range ∙ ap (λ b. cond (b && test s) (change (get_or old s d)) (get_or old s d)) absent in
        let among : list_any (λ r. r == s) (take (i + 1) sems) ≡ true = any_is s ∙ rw (absent, hit) refl in
        ap (λ xs. get_or xs s d) new_is ∙ here (test s) d ∙ ap (λ c. cond (test s) (change c) c) was ∙ ap (λ b. cond (b && test s) (change (get_or old s d)) (get_or old s d)) (sym among))
    by_place k d below (inr other) =
        let miss : eqb s k ≡ false = grind (arith, nat_tests) in
        ap (λ xs. get_or xs k d) new_is ∙ elsewhere (test s) k d (λ e. other (sym e)) ∙ so_far.each k d below
        ∙ ap (λ b. cond (b && test k) (change (get_or old k d)) (get_or old k d)) (sym (any_is k ∙ ap (λ b. list_any (λ r. r == k) (take i sems) || b) miss ∙ or_no (list_any (λ r. r == k) (take i sems))))

-- the next semaphore's count is still what it was
pub next_same : (change : UnitCount → UnitCount) (test : ℕ → Bool) (old now : List UnitCount) (sems : List ℕ) (i s : ℕ) (d : UnitCount) → IsStrictlyIncreasing sems → i < length sems → s ≡ get_or sems i 0 → s < length old
    → Changed change test old now (take i sems) → get_or now s d ≡ get_or old s d
next_same change test old now sems i s d rising within is in_range so_far =
    so_far.each s d in_range ∙ ap (λ b. cond (b && test s) (change (get_or old s d)) (get_or old s d)) (absent_before sems i s rising within is)

-- an item found by its place is among a list
pub any_found : (xs : List ℕ) (i s : ℕ) → i < length xs → get_or xs i 0 ≡ s → list_any (λ r. r == s) xs ≡ true
any_found [] i s below is = absurd (omega arith)
any_found (x ∷ xs) zero s below is = let hit : eqb x s ≡ true = grind (arith, nat_tests) in rw hit refl
any_found (x ∷ xs) (suc i) s below is = rw (any_found xs i s (omega arith) is) (or_yes (eqb x s))
  where
    or_yes : (b : Bool) → b || true ≡ true
    or_yes true = refl
    or_yes false = refl

-- and one that no place has isn't
any_missing : (xs : List ℕ) (s : ℕ) → ((k : ℕ) → k < length xs → get_or xs k 0 ≢ s) → list_any (λ r. r == s) xs ≡ false
any_missing [] s none = refl
any_missing (x ∷ xs) s none =
    let miss : eqb x s ≡ false = let n = none 0 (omega arith) in grind (arith, nat_tests) in
    rw miss (any_missing xs s (λ k below. none (suc k) (omega arith)))

-- what a binary search of a rising list tells
pub searched_any : (xs : List ℕ) (s : ℕ) (r : Result ℕ ℕ) → IsStrictlyIncreasing xs → IsBinarySearchResult (λ y. nat_cmp y s) xs r → is_ok r ≡ list_any (λ x. x == s) xs
searched_any xs s r rising found = by_result r (searched xs s r found sorted)
  where
    sorted : (i j : ℕ) → i ≤ j → j < length xs → get_or xs i 0 ≤ get_or xs j 0
    sorted i j before below = by_case (cases_lt i j)
      where
        by_case : (i < j) ⊎ (j ≤ i) → get_or xs i 0 ≤ get_or xs j 0
        by_case (inl less) = omega (arith, AllPairs-from_increasing xs rising i j 0 less below)
        by_case (inr same) = let e : i ≡ j = omega arith in omega (arith, ap (λ k. get_or xs k 0) e)

    by_result : (q : Result ℕ ℕ) → MatchResult q (λ i. (i < length xs) × (get_or xs i 0 ≡ s)) (λ i. (i ≤ length xs) × ((k : ℕ) → k < i → get_or xs k 0 < s) × ((k : ℕ) → i ≤ k → k < length xs → s < get_or xs k 0)) → is_ok q ≡ list_any (λ x. x == s) xs
    by_result (Ok i) at = sym (any_found xs i s at.0 at.1)
    by_result (Err i) at = sym (any_missing xs s (λ k below is. by_case k below is (cases_lt k i)))
      where
        by_case : (k : ℕ) → k < length xs → get_or xs k 0 ≡ s → (k < i) ⊎ (i ≤ k) → ⊥
        by_case k below is (inl before) = omega (arith, at.1 k before)
        by_case k below is (inr after) = omega (arith, at.2 k after below)

-- Which tokens have passed, and after how many passes.
use Rattle.std.proofs.Common.{◌≡◌, ◌≢◌, ◌⊎◌, inl, inr, ℕ, zero, suc, max, ◌+◌, ◌<◌, ◌≤◌, Bool, true, false, ◌||◌, cond, eqb, List, [], ◌∷◌, ◌++◌, length, take, sym, refl, ap, ◌∙◌, arith}
use Rattle.std.proofs.lemmas.Bool.Decides.{nat_tests}
use Rattle.std.proofs.lemmas.Bool.{cases_eq, false≢true}
use Rattle.pipe_lines.specs.PassOrder.{has_passed, looked_at}
use Rattle.pipe_lines.specs.inside.Walks.{passed_after}

-- after a prefix of the passes
pub by_take : (passed : List ℕ) (k i : ℕ) → has_passed (take i passed) k ≡ true → (1 ≤ passed_after passed k) × (passed_after passed k ≤ i)
by_take [] k zero is = absurd (cc)
by_take [] k (suc i) is = absurd (cc)
by_take (q ∷ passed) k zero is = absurd (cc)
by_take (q ∷ passed) k (suc i) is = by_test (eqb q k) is (by_take passed k i)
  where
    by_test : (b : Bool) → b || has_passed (take i passed) k ≡ true → (has_passed (take i passed) k ≡ true → (1 ≤ passed_after passed k) × (passed_after passed k ≤ i))
        → (1 ≤ cond b 1 (cond (eqb (passed_after passed k) 0) 0 (suc (passed_after passed k)))) × (cond b 1 (cond (eqb (passed_after passed k) 0) 0 (suc (passed_after passed k))) ≤ suc i)
    by_test true h more = (omega arith, omega arith)
    by_test false h more =
        let before : (1 ≤ passed_after passed k) × (passed_after passed k ≤ i) = more h in
        let some : 1 ≤ passed_after passed k = before.0 in
        let within : passed_after passed k ≤ i = before.1 in
        let other : eqb (passed_after passed k) 0 ≡ false = grind (arith, nat_tests) in
        let is_one_more : cond (eqb (passed_after passed k) 0) 0 (suc (passed_after passed k)) ≡ suc (passed_after passed k) = ap (λ t. cond t 0 (suc (passed_after passed k))) other in
        (omega (arith, is_one_more), omega (arith, is_one_more, within))

pub to_take : (passed : List ℕ) (k i : ℕ) → 1 ≤ passed_after passed k → passed_after passed k ≤ i → has_passed (take i passed) k ≡ true
to_take [] k i some within = absurd (omega (arith, some))
to_take (q ∷ passed) k zero some within = absurd (omega (arith, some, within))
to_take (q ∷ passed) k (suc i) some within = by_test (eqb q k) some within (to_take passed k i)
  where
    by_test : (b : Bool) → 1 ≤ cond b 1 (cond (eqb (passed_after passed k) 0) 0 (suc (passed_after passed k))) → cond b 1 (cond (eqb (passed_after passed k) 0) 0 (suc (passed_after passed k))) ≤ suc i
        → (1 ≤ passed_after passed k → passed_after passed k ≤ i → has_passed (take i passed) k ≡ true) → b || has_passed (take i passed) k ≡ true
    by_test true s w more = refl
    by_test false s w more = by_zero (cases_eq (passed_after passed k) 0)
      where
        by_zero : (passed_after passed k ≡ 0) ⊎ (passed_after passed k ≢ 0) → has_passed (take i passed) k ≡ true
        by_zero (inl none) =
            let hit : eqb (passed_after passed k) 0 ≡ true = grind (arith, nat_tests) in
            let is_none : cond (eqb (passed_after passed k) 0) 0 (suc (passed_after passed k)) ≡ 0 = ap (λ t. cond t 0 (suc (passed_after passed k))) hit in
            absurd (omega (arith, s, is_none))
        by_zero (inr other) =
            let miss : eqb (passed_after passed k) 0 ≡ false = grind (arith, nat_tests) in
            let is_more : cond (eqb (passed_after passed k) 0) 0 (suc (passed_after passed k)) ≡ suc (passed_after passed k) = ap (λ t. cond t 0 (suc (passed_after passed k))) miss in
            more (omega (arith, other)) (omega (arith, w, is_more))

-- no token passed after more passes than there are
pub after_most : (passed : List ℕ) (k : ℕ) → passed_after passed k ≤ length passed
after_most [] k = omega arith
after_most (q ∷ passed) k = by_test (eqb q k) (eqb (passed_after passed k) 0) (after_most passed k)
  where
    by_test : (b c : Bool) → passed_after passed k ≤ length passed → cond b 1 (cond c 0 (suc (passed_after passed k))) ≤ length (q ∷ passed)
    by_test true c h = omega (arith)
    by_test false true h = omega (arith)
    by_test false false h = omega (arith, h)

-- all passes
pub after_none : (passed : List ℕ) (k : ℕ) → has_passed passed k ≡ false → passed_after passed k ≡ 0
after_none [] k is = refl
after_none (q ∷ passed) k is = by_test (eqb q k) is (after_none passed k)
  where
    by_test : (b : Bool) → b || has_passed passed k ≡ false → (has_passed passed k ≡ false → passed_after passed k ≡ 0) → cond b 1 (cond (eqb (passed_after passed k) 0) 0 (suc (passed_after passed k))) ≡ 0
    by_test true h more = absurd (cc)
    by_test false h more = ap (λ n. cond (eqb n 0) 0 (suc n)) (more h)

pub passed_none : (passed : List ℕ) (k : ℕ) → passed_after passed k ≡ 0 → has_passed passed k ≡ false
passed_none [] k is = refl
passed_none (q ∷ passed) k is = by_test (eqb q k) is (passed_none passed k)
  where
    by_test : (b : Bool) → cond b 1 (cond (eqb (passed_after passed k) 0) 0 (suc (passed_after passed k))) ≡ 0 → (passed_after passed k ≡ 0 → has_passed passed k ≡ false) → b || has_passed passed k ≡ false
    by_test true h more = absurd (omega (arith, h))
    by_test false h more = by_zero (cases_eq (passed_after passed k) 0)
      where
        by_zero : (passed_after passed k ≡ 0) ⊎ (passed_after passed k ≢ 0) → has_passed passed k ≡ false
        by_zero (inl none) = more none
        by_zero (inr other) =
            let miss : eqb (passed_after passed k) 0 ≡ false = grind (arith, nat_tests) in
            let is_more : cond (eqb (passed_after passed k) 0) 0 (suc (passed_after passed k)) ≡ suc (passed_after passed k) = ap (λ t. cond t 0 (suc (passed_after passed k))) miss in
            absurd (omega (arith, h, is_more))

pub after_some : (passed : List ℕ) (k : ℕ) → has_passed passed k ≡ true → 1 ≤ passed_after passed k
after_some passed k is = by_zero (cases_eq (passed_after passed k) 0)
  where
    by_zero : (passed_after passed k ≡ 0) ⊎ (passed_after passed k ≢ 0) → 1 ≤ passed_after passed k
    by_zero (inl none) = absurd (false≢true (sym (passed_none passed k none) ∙ is))
    by_zero (inr other) = omega (arith, other)

-- one pass more
pub after_push_same : (passed : List ℕ) (k : ℕ) → passed_after passed k ≡ 0 → passed_after (passed ++ k ∷ []) k ≡ length passed + 1
after_push_same [] k none = let hit : eqb k k ≡ true = grind (arith, nat_tests) in ap (λ b. cond b 1 0) hit
after_push_same (q ∷ passed) k none = by_test (eqb q k) none (after_push_same passed k)
  where
    by_test : (b : Bool) → cond b 1 (cond (eqb (passed_after passed k) 0) 0 (suc (passed_after passed k))) ≡ 0 → (passed_after passed k ≡ 0 → passed_after (passed ++ k ∷ []) k ≡ length passed + 1)
        → cond b 1 (cond (eqb (passed_after (passed ++ k ∷ []) k) 0) 0 (suc (passed_after (passed ++ k ∷ []) k))) ≡ length (q ∷ passed) + 1
    by_test true h more = absurd (omega (arith, h))
    by_test false h more = by_zero (cases_eq (passed_after passed k) 0)
      where
        by_zero : (passed_after passed k ≡ 0) ⊎ (passed_after passed k ≢ 0) → cond (eqb (passed_after (passed ++ k ∷ []) k) 0) 0 (suc (passed_after (passed ++ k ∷ []) k)) ≡ length (q ∷ passed) + 1
        by_zero (inl none_yet) =
            let now : passed_after (passed ++ k ∷ []) k ≡ length passed + 1 = more none_yet in
            let miss : eqb (passed_after (passed ++ k ∷ []) k) 0 ≡ false = grind (arith, nat_tests) in
            let is_more : cond (eqb (passed_after (passed ++ k ∷ []) k) 0) 0 (suc (passed_after (passed ++ k ∷ []) k)) ≡ suc (passed_after (passed ++ k ∷ []) k) = ap (λ t. cond t 0 (suc (passed_after (passed ++ k ∷ []) k))) miss in
            omega (arith, is_more, now)
        by_zero (inr other) =
            let miss : eqb (passed_after passed k) 0 ≡ false = grind (arith, nat_tests) in
            let is_more : cond (eqb (passed_after passed k) 0) 0 (suc (passed_after passed k)) ≡ suc (passed_after passed k) = ap (λ t. cond t 0 (suc (passed_after passed k))) miss in
            absurd (omega (arith, h, is_more))

pub after_push_other : (passed : List ℕ) (t k : ℕ) → t ≢ k → passed_after (passed ++ t ∷ []) k ≡ passed_after passed k
after_push_other [] t k other = let miss : eqb t k ≡ false = grind (arith, nat_tests) in ap (λ b. cond b 1 0) miss
after_push_other (q ∷ passed) t k other = ap (λ n. cond (eqb q k) 1 (cond (eqb n 0) 0 (suc n))) (after_push_other passed t k other)

-- ---- the tokens that were looked at

pub looked_push : (passed : List ℕ) (t : ℕ) → looked_at (passed ++ t ∷ []) ≡ max (looked_at passed) (suc t)
looked_push [] t = omega arith
looked_push (q ∷ passed) t = omega (arith, looked_push passed t)

pub passed_below : (passed : List ℕ) (k : ℕ) → has_passed passed k ≡ true → k < looked_at passed
passed_below [] k is = absurd (cc)
passed_below (q ∷ passed) k is = by_place (cases_eq q k) is (passed_below passed k)
  where
    by_place : (q ≡ k) ⊎ (q ≢ k) → eqb q k || has_passed passed k ≡ true → (has_passed passed k ≡ true → k < looked_at passed) → k < max (suc q) (looked_at passed)
    by_place (inl same) h more = omega (arith, same)
    by_place (inr other) h more =
        let miss : eqb q k ≡ false = grind (arith, nat_tests) in
        let later : k < looked_at passed = more (ap (λ b. b || has_passed passed k) (sym miss) ∙ h) in
        omega (arith, later)

-- The laws of the order of tokens.
use Rattle.std.proofs.Common.{◌≡◌, ◌≢◌, ◌⊎◌, inl, inr, ℕ, zero, suc, ◌+◌, ◌-◌, ◌<◌, ◌≤◌, Bool, true, false, not, ◌&&◌, ◌||◌, eqb, List, [], ◌∷◌, ◌++◌, length, take, get_or, Option, Some, None, sym, refl, ap, ◌∙◌, arith}
use Rattle.std.specs.Option.{option_or}
use Rattle.std.specs.List.{range_with_len}
use Rattle.std.proofs.lemmas.Bool.Decides.{nat_tests}
use Rattle.std.proofs.lemmas.Bool.{cases_eq, false≢true}
use Rattle.std.proofs.lemmas.List.Quantifiers.{all_pairs_push}
use Rattle.pipe_lines.specs.declared.deferral.DeferRow.{DeferRow}
use Rattle.pipe_lines.specs.PassOrder.{has_passed, is_free, looked_at, freed_by, resumed, next_new, next_token, passes, pass_order}
use Rattle.pipe_lines.specs.OrderRules.{PassOnce, PassAll, PassInTurn}
use Rattle.pipe_lines.proofs.FindLemmas.{find_is, find_none, finds_none, first_none}
use Rattle.pipe_lines.proofs.StepLemmas.{IsNext, next_is, passes_more}

-- ---- without rows

range_more : (a n m : ℕ) → m ≡ suc n → range_with_len a n ++ (a + n) ∷ [] ≡ range_with_len a m
range_more a zero m is = ap (λ k. k ∷ []) first ∙ sym (ap (range_with_len a) is)
  where
    first : a + 0 ≡ a
    first = omega arith
range_more a (suc n) m is =
    ap (λ ks. a ∷ ks) (ap (λ k. range_with_len (a + 1) n ++ k ∷ []) last ∙ range_more (a + 1) n (suc n) refl) ∙ sym (ap (range_with_len a) is)
  where
    last : a + suc n ≡ a + 1 + n
    last = omega arith

passed_range : (a n k : ℕ) → a ≤ k → k < a + n → has_passed (range_with_len a n) k ≡ true
passed_range a zero k from below = absurd (omega (arith, from, below))
passed_range a (suc n) k from below = by_place (cases_eq a k) (λ other. passed_range (a + 1) n k (omega (arith, from, other)) (omega (arith, below)))
  where
    by_place : (a ≡ k) ⊎ (a ≢ k) → (a ≢ k → has_passed (range_with_len (a + 1) n) k ≡ true) → eqb a k || has_passed (range_with_len (a + 1) n) k ≡ true
    by_place (inl equal) more = let hit : eqb a k ≡ true = grind (arith, nat_tests) in ap (λ b. b || has_passed (range_with_len (a + 1) n) k) hit
    by_place (inr other) more = or_true (eqb a k) (has_passed (range_with_len (a + 1) n) k) (more other)
      where
        or_true : (b c : Bool) → c ≡ true → b || c ≡ true
        or_true true c is = refl
        or_true false c is = is

looked_range : (a n : ℕ) → 1 ≤ n → looked_at (range_with_len a n) ≡ a + n
looked_range a zero some = absurd (omega (arith, some))
looked_range a (suc zero) some = omega arith
looked_range a (suc (suc n)) some = omega (arith, looked_range (a + 1) (suc n) (omega arith))

looked_first : (k : ℕ) → looked_at (range_with_len 0 k) ≡ k
looked_first zero = refl
looked_first (suc k) = looked_range 0 (suc k) (omega arith) ∙ omega arith

none_resumed : (k : ℕ) → resumed [] (range_with_len 0 k) ≡ None
none_resumed k = first_none (freed_by [] (range_with_len 0 k)) 0 (length (range_with_len 0 k) + 1)
    (λ i from below. find_none (λ j. not (has_passed (range_with_len 0 k) j) && is_free [] (take i (range_with_len 0 k)) j) 0 (looked_at (range_with_len 0 k))
    (λ j low high. ap (λ b. not b && true) (passed_range 0 k j (omega arith) (omega (arith, high, looked_first k)))))

next_is_new : (tokens k : ℕ) → k < tokens → next_token tokens [] (range_with_len 0 k) ≡ Some k
next_is_new tokens k below =
    ap (λ o. option_or o (next_new tokens [] (range_with_len 0 k))) (none_resumed k)
    ∙ find_is (is_free [] (range_with_len 0 k)) (looked_at (range_with_len 0 k)) (tokens - looked_at (range_with_len 0 k)) k
    (record { from = omega (arith, looked_first k); below = omega (arith, looked_first k, below); passes = refl; least = λ j from less. absurd (omega (arith, from, less, looked_first k)) })

all_in_turn : (tokens n k : ℕ) → k + n ≡ tokens → passes tokens [] n (range_with_len 0 k) ≡ range_with_len 0 tokens
all_in_turn tokens zero k is = ap (range_with_len 0) (omega (arith, is))
all_in_turn tokens (suc n) k is =
    sym (passes_more tokens n (suc n) [] (range_with_len 0 k) k (next_is_new tokens k (omega (arith, is))) refl)
    ∙ ap (passes tokens [] n) (ap (λ j. range_with_len 0 k ++ j ∷ []) zero_plus ∙ range_more 0 k (k + 1) (omega arith))
    ∙ all_in_turn tokens n (k + 1) (omega (arith, is))
  where
    zero_plus : k ≡ 0 + k
    zero_plus = omega arith

pub in_turn : PassInTurn
in_turn tokens = all_in_turn tokens tokens 0 (omega arith)

-- ---- each token once

record AreDistinct (tokens : ℕ) (passed : List ℕ) : Type 0 where
  within : looked_at passed ≤ tokens
  once : (i j : ℕ) (d : ℕ) → i < j → j < length passed → get_or passed i d ≢ get_or passed j d

not_passed_each : (passed : List ℕ) (k i d : ℕ) → has_passed passed k ≡ false → i < length passed → get_or passed i d ≢ k
not_passed_each [] k i d none below = absurd (omega (arith, below))
not_passed_each (q ∷ passed) k i d none below = by_place i below (cases_eq q k) none (λ j h less. not_passed_each passed k j d h less)
  where
    by_place : (j : ℕ) → j < length (q ∷ passed) → (q ≡ k) ⊎ (q ≢ k) → eqb q k || has_passed passed k ≡ false → ((n : ℕ) → has_passed passed k ≡ false → n < length passed → get_or passed n d ≢ k) → get_or (q ∷ passed) j d ≢ k
    by_place j less (inl equal) h more = let hit : eqb q k ≡ true = grind (arith, nat_tests) in absurd (false≢true (sym h ∙ ap (λ b. b || has_passed passed k) hit))
    by_place zero less (inr other) h more = other
    by_place (suc j) less (inr other) h more = let miss : eqb q k ≡ false = grind (arith, nat_tests) in more j (sym (ap (λ b. b || has_passed passed k) miss) ∙ h) (omega (arith, less))

distinct_more : (tokens n : ℕ) (rows : List DeferRow) (passed : List ℕ) → AreDistinct tokens passed → AreDistinct tokens (passes tokens rows n passed)
distinct_more tokens zero rows passed distinct = distinct
distinct_more tokens (suc n) rows passed distinct = by_next (next_token tokens rows passed) refl (λ k s. distinct_more tokens n rows (passed ++ k ∷ []) s)
  where
    by_next : (o : Option ℕ) → next_token tokens rows passed ≡ o → ((k : ℕ) → AreDistinct tokens (passed ++ k ∷ []) → AreDistinct tokens (passes tokens rows n (passed ++ k ∷ []))) → AreDistinct tokens (elim o as (λ _. List ℕ) [ None ↦ passed | Some k ↦ passes tokens rows n (passed ++ k ∷ []) ])
    by_next None is more = distinct
    by_next (Some k) is more =
        let next : IsNext tokens rows passed k is = next_is tokens rows passed k is distinct.within in
        more k (record {
          within = next.within;
          once = all_pairs_push (λ a b. a ≢ b) passed k distinct.once (λ i d below. not_passed_each passed k i d next.not_yet below);
        })

pub once : PassOnce
once tokens rows = (distinct_more tokens tokens rows [] (record {
  within = omega arith;
  once = λ i j d less below. absurd (omega (arith, below));
})).once

-- ---- where none is left

pub all_pass : PassAll
all_pass tokens rows none k below = by_test (has_passed (pass_order tokens rows) k) refl (finds_none (λ j. not (has_passed (pass_order tokens rows) j)) 0 tokens none k (omega arith) (omega (arith, below)))
  where
    by_test : (b : Bool) → has_passed (pass_order tokens rows) k ≡ b → not b ≡ false → b ≡ true
    by_test true is h = refl
    by_test false is h = absurd (false≢true (sym h))

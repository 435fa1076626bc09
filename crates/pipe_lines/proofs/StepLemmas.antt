-- One pass more.
use Rattle.std.proofs.Common.{◌≡◌, ℕ, zero, suc, ◌+◌, ◌-◌, ◌<◌, ◌≤◌, Bool, true, false, not, ◌&&◌, List, [], ◌∷◌, ◌++◌, length, take, Option, Some, None, sym, refl, ap, ◌∙◌, subst, arith}
use Rattle.std.specs.Prelude.{slice_get}
use Rattle.std.specs.Option.{option_or}
use Rattle.std.proofs.lemmas.Bool.{false≢true}
use Rattle.std.proofs.lemmas.Option.{slice_get_within}
use Rattle.pipe_lines.specs.declared.deferral.DeferRow.{DeferRow}
use Rattle.pipe_lines.specs.declared.order.Order.{Order}
use Rattle.pipe_lines.specs.declared.order.Passed.TheVariants.{Token}
use Rattle.pipe_lines.specs.Orders.{end_of, passed_or, passed_at}
use Rattle.pipe_lines.specs.PassOrder.{has_passed, is_free, looked_at, freed_by, resumed, next_new, next_token, passes}
use Rattle.pipe_lines.proofs.FindLemmas.{Finds, finds, Found, found_first}
use Rattle.pipe_lines.proofs.PassLemmas.{passed_below, looked_push}

-- ---- the next token

module _ (tokens : ℕ) (rows : List DeferRow) (passed : List ℕ) (k : ℕ) (is_next : next_token tokens rows passed ≡ Some k) where
  -- it is new, if none is resumed
  pub new_one : resumed rows passed ≡ None → Finds (is_free rows passed) (looked_at passed) (tokens - looked_at passed) k
  new_one none = finds (is_free rows passed) (looked_at passed) (tokens - looked_at passed) k (sym (ap (λ o. option_or o (next_new tokens rows passed)) none) ∙ is_next)

  -- else it waited
  record IsResumed : Type 0 where
    below : k < looked_at passed
    not_yet : has_passed passed k ≡ false

  old_one : (j : ℕ) → resumed rows passed ≡ Some j → IsResumed
  old_one j is = record { below = subst (λ t. t < looked_at passed) same_token (omega (arith, found.below)); not_yet = ap (has_passed passed) (sym same_token) ∙ not_yet (has_passed passed j) refl found.passes }
    where
      same_token : j ≡ k
      same_token = let e : Some j ≡ Some k = sym (ap (λ o. option_or o (next_new tokens rows passed)) is) ∙ is_next in cc

      place : Found (freed_by rows passed) 0 (length passed + 1) j
      place = found_first (freed_by rows passed) 0 (length passed + 1) j is

      found : Finds (λ t. not (has_passed passed t) && is_free rows (take place.place passed) t) 0 (looked_at passed) j
      found = finds (λ t. not (has_passed passed t) && is_free rows (take place.place passed) t) 0 (looked_at passed) j place.is

      not_yet : (b : Bool) → has_passed passed j ≡ b → not b && is_free rows (take place.place passed) j ≡ true → has_passed passed j ≡ false
      not_yet false is_b h = is_b
      not_yet true is_b h = absurd (false≢true h)

  pub record IsNext : Type 0 where
    pub below : k < tokens
    pub not_yet : has_passed passed k ≡ false
    pub within : looked_at (passed ++ k ∷ []) ≤ tokens

  pub next_is : looked_at passed ≤ tokens → IsNext
  next_is few = by_old (resumed rows passed) refl
    where
      by_old : (o : Option ℕ) → resumed rows passed ≡ o → IsNext
      by_old (Some j) is =
          let old : IsResumed = old_one j is in
          record { below = omega (arith, old.below, few); not_yet = old.not_yet; within = omega (arith, old.below, looked_push passed k, few) }
      by_old None is =
          let new : Finds (is_free rows passed) (looked_at passed) (tokens - looked_at passed) k = new_one is in
          record {
            below = omega (arith, new.below, new.from, few);
            not_yet = unpassed (has_passed passed k) refl new.from;
            within = omega (arith, looked_push passed k, new.below, new.from, few);
          }
        where
          unpassed : (b : Bool) → has_passed passed k ≡ b → looked_at passed ≤ k → has_passed passed k ≡ false
          unpassed false h from = h
          unpassed true h from = absurd (omega (arith, passed_below passed k h, from))

-- ---- the passes

pub passes_more : (tokens n m : ℕ) (rows : List DeferRow) (passed : List ℕ) (k : ℕ) → next_token tokens rows passed ≡ Some k → m ≡ suc n → passes tokens rows n (passed ++ k ∷ []) ≡ passes tokens rows m passed
passes_more tokens n m rows passed k is count =
    sym (ap (λ j. passes tokens rows j passed) count ∙ by_next (next_token tokens rows passed) is)
  where
    by_next : (o : Option ℕ) → o ≡ Some k → elim o [ None ↦ passed | Some t ↦ passes tokens rows n (passed ++ t ∷ []) ] ≡ passes tokens rows n (passed ++ k ∷ [])
    by_next None e = absurd (cc)
    by_next (Some t) e = let tied_token : t ≡ k = cc in ap (λ s. passes tokens rows n (passed ++ s ∷ [])) tied_token

pub passes_end : (tokens n : ℕ) (rows : List DeferRow) (passed : List ℕ) → next_token tokens rows passed ≡ None → passes tokens rows n passed ≡ passed
passes_end tokens zero rows passed is = refl
passes_end tokens (suc n) rows passed is = by_next (next_token tokens rows passed) is
  where
    by_next : (o : Option ℕ) → o ≡ None → elim o [ None ↦ passed | Some t ↦ passes tokens rows n (passed ++ t ∷ []) ] ≡ passed
    by_next None e = refl
    by_next (Some t) e = absurd (cc)

-- ---- places

pub token_within : (order : Order) (place k : ℕ) → passed_at order place ≡ Token k → place < length order.passed
token_within order place k is = by_token (slice_get order.passed place) refl is
  where
    end_no : (unmet : Option ℕ) → end_of unmet ≡ Token k → place < length order.passed
    end_no None e = absurd (cc)
    end_no (Some j) e = absurd (cc)

    by_token : (o : Option ℕ) → slice_get order.passed place ≡ o → passed_or o order.unmet ≡ Token k → place < length order.passed
    by_token None at e = end_no order.unmet e
    by_token (Some t) at e = slice_get_within order.passed place t at

-- The adds that all passes of a book have kept are all of its rows.
use Rattle.std.proofs.Common.{◌≡◌, ◌≢◌, ◌⊎◌, inl, inr, ◌∙◌, ℕ, suc, ◌+◌, ◌<◌, ◌≤◌, Bool, true, false, cond, eqb, List, [], ◌∷◌, ◌++◌, length, Some, refl, sym, ap, subst, arith}
use Rattle.std.specs.Prelude.{slice_get, sum_by}
use Rattle.std.specs.List.{AllByRecursion}
use Rattle.std.proofs.lemmas.Bool.{cases_eq}
use Rattle.std.proofs.lemmas.Bool.Decides.{nat_tests}
use Rattle.std.proofs.lemmas.List.{length-map}
use Rattle.std.proofs.lemmas.List.Sums.{sum_by-cons}
use Rattle.journal_rules.specs.Entries.{EachAfterThese}
use Rattle.async_tasks.specs.declared.history.AddRow.{AddRow}
use Rattle.async_tasks.specs.Histories.{RowRule, rows_of, kept_row, kept_of}
use Rattle.async_tasks.specs.Passes.{PassState, kept}

abbrev as_number : Bool → ℕ
as_number b = cond b 1 0

module _ {X : Type 0} where
  -- sums of what is the same at each item, and of what is a sum
  sum_same : (f g : X → ℕ) (xs : List X) → AllByRecursion (λ x. f x ≡ g x) xs → sum_by f xs ≡ sum_by g xs
  sum_same f g [] h = refl
  sum_same f g (x ∷ xs) h = let rest = sum_same f g xs h.1 in omega (arith, h.0, sum_by-cons f x xs, sum_by-cons g x xs)

  sum_plus : (f g h : X → ℕ) (xs : List X) → ((x : X) → f x ≡ g x + h x) → sum_by f xs ≡ sum_by g xs + sum_by h xs
  sum_plus f g h [] each = refl
  sum_plus f g h (x ∷ xs) each =
      let rest = sum_plus f g h xs each in
      let here = each x in
      omega (arith, sum_by-cons f x xs, sum_by-cons g x xs, sum_by-cons h x xs)

  sum_zero : (f : X → ℕ) (xs : List X) → ((x : X) → f x ≡ 0) → sum_by f xs ≡ 0
  sum_zero f [] each = refl
  sum_zero f (x ∷ xs) each = let rest = sum_zero f xs each in let here = each x in omega (arith, sum_by-cons f x xs)

-- the callers of rows that follow one another
callers_below : (callers : ℕ) (before rows : List AddRow) → EachAfterThese (RowRule callers) before rows → AllByRecursion (λ (row : AddRow). row.caller < callers) rows
callers_below callers before [] each = tt
callers_below callers before (row ∷ rows) each = (each.0.caller, callers_below callers (before ++ row ∷ []) rows each.1)

module _ {W V : Type 0} where
  -- passes of the callers from a number on, one after the other
  abbrev pub AreFrom : ℕ → List (PassState W V) → Type 0
  AreFrom k [] = Unit {0}
  AreFrom k (pass ∷ passes) = (pass.caller ≡ k) × AreFrom (suc k) passes

  abbrev is_for : ℕ → PassState W V → ℕ
  is_for c pass = as_number (eqb c pass.caller)

  none_for : (c k : ℕ) (passes : List (PassState W V)) → AreFrom k passes → c < k → sum_by (is_for c) passes ≡ 0
  none_for c k [] from less = refl
  none_for c k (pass ∷ passes) from less =
      let here = from.0 in
      let miss : eqb c pass.caller ≡ false = grind (arith, nat_tests) in
      let rest = none_for c (suc k) passes from.1 (omega arith) in
      omega (arith, sum_by-cons (is_for c) pass passes, ap as_number miss)

  one_for : (c k : ℕ) (passes : List (PassState W V)) → AreFrom k passes → k ≤ c → c < k + length passes → sum_by (is_for c) passes ≡ 1
  one_for c k [] from least below = absurd (omega arith)
  one_for c k (pass ∷ passes) from least below = by_case (cases_eq c k) (λ later. one_for c (suc k) passes from.1 later (omega arith))
    where
      by_case : (c ≡ k) ⊎ (c ≢ k) → (suc k ≤ c → sum_by (is_for c) passes ≡ 1) → sum_by (is_for c) (pass ∷ passes) ≡ 1
      by_case (inl same) among =
          let here = from.0 in
          let hit : eqb c pass.caller ≡ true = grind (arith, nat_tests) in
          let rest = none_for c (suc k) passes from.1 (omega arith) in
          omega (arith, sum_by-cons (is_for c) pass passes, ap as_number hit)
      by_case (inr other) among =
          let here = from.0 in
          let miss : eqb c pass.caller ≡ false = grind (arith, nat_tests) in
          let rest = among (omega arith) in
          omega (arith, sum_by-cons (is_for c) pass passes, ap as_number miss)

  -- how many rows a pass's caller has
  abbrev rows_for : List AddRow → PassState W V → ℕ
  rows_for rows pass = length (rows_of pass.caller rows)

  one_row_more : (row : AddRow) (rows : List AddRow) (pass : PassState W V) → rows_for (row ∷ rows) pass ≡ is_for row.caller pass + rows_for rows pass
  one_row_more row rows pass = by_test (eqb row.caller pass.caller)
    where
      by_test : (b : Bool) → length (cond b (row ∷ rows_of pass.caller rows) (rows_of pass.caller rows)) ≡ as_number b + rows_for rows pass
      by_test true = omega arith
      by_test false = omega arith

  all_rows : (rows : List AddRow) (passes : List (PassState W V)) → AreFrom 0 passes → AllByRecursion (λ (row : AddRow). row.caller < length passes) rows → length rows ≡ sum_by (rows_for rows) passes
  all_rows [] passes from below = sym (sum_zero (rows_for []) passes (λ pass. refl))
  all_rows (row ∷ rows) passes from below =
      let rest = all_rows rows passes from below.1 in
      let one = one_for row.caller 0 passes from (omega arith) (omega (arith, below.0)) in
      omega (arith, sum_plus (rows_for (row ∷ rows)) (is_for row.caller) (rows_for rows) passes (one_row_more row rows))

  from_places : (k : ℕ) (passes : List (PassState W V)) → ((c : ℕ) (pass : PassState W V) → slice_get passes c ≡ Some pass → pass.caller ≡ k + c) → AreFrom k passes
  from_places k [] each = tt
  from_places k (pass ∷ passes) each =
      let here = each 0 pass refl in
      (omega arith, from_places (suc k) passes (λ c p at. let there = each (suc c) p at in omega arith))

  same_counts : (rows : List AddRow) (passes : List (PassState W V)) → ((c : ℕ) (pass : PassState W V) → slice_get passes c ≡ Some pass → kept_of pass.caller rows ≡ kept pass) → AllByRecursion (λ (pass : PassState W V). rows_for rows pass ≡ length (kept pass)) passes
  same_counts rows [] each = tt
  same_counts rows (pass ∷ passes) each = (
    sym (length-map (rows_of pass.caller rows) kept_row) ∙ ap length (each 0 pass refl),
    same_counts rows passes (λ c p at. each (suc c) p at),
  )

  -- The passes have kept as many adds as there are rows.
  pub counted : (callers : ℕ) (rows : List AddRow) (passes : List (PassState W V)) → EachAfterThese (RowRule callers) [] rows → length passes ≡ callers →
      ((c : ℕ) (pass : PassState W V) → slice_get passes c ≡ Some pass → (pass.caller ≡ c) × (kept_of pass.caller rows ≡ kept pass)) → length rows ≡ sum_by (λ (pass : PassState W V). length (kept pass)) passes
  counted callers rows passes each count own =
      all_rows rows passes (from_places 0 passes (λ c pass at. let here = (own c pass at).0 in omega arith)) (subst (λ n. AllByRecursion (λ (row : AddRow). row.caller < n) rows) (sym count) (callers_below callers [] rows each))
      ∙ sum_same (rows_for rows) (λ pass. length (kept pass)) passes (same_counts rows passes (λ c pass at. (own c pass at).1))

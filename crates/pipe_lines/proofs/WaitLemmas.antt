-- Which tokens wait for which, in tables.
use Rattle.std.proofs.Common.{◌≡◌, ◌≢◌, ◌⊎◌, inl, inr, ℕ, zero, suc, ◌+◌, ◌<◌, Bool, true, false, ◌||◌, cond, eqb, List, [], ◌∷◌, ◌++◌, length, get_or, Option, Some, None, sym, refl, ap, ◌∙◌, subst, arith}
use Rattle.std.specs.Prelude.{filter, slice_get, slice_index_or, ◌==◌}
use Rattle.std.specs.List.{range_with_len}
use Rattle.std.proofs.Math.Seq.{take-length}
use Rattle.std.proofs.lemmas.Bool.{cases_eq, false≢true, eq-eqb, ne_eqb}
use Rattle.std.proofs.lemmas.List.Folds.{list_any_more}
use Rattle.std.proofs.lemmas.Option.{slice_get_within, slice_get_read, get_or_from_slice_get}
use Rattle.pipe_lines.specs.declared.deferral.DeferRow.{DeferRow}
use Rattle.pipe_lines.specs.DeferRows.{AreApart, is_deferred}
use Rattle.pipe_lines.specs.PassOrder.{targets}
use Rattle.pipe_lines.specs.inside.Waiting.{AreWaiters, ArePlaces, GainsWaiter, IsPlace, waiters, waits_for}

-- ---- rows

rest_apart : (row : DeferRow) (rows : List DeferRow) → AreApart (row ∷ rows) → AreApart rows
rest_apart row rows apart i j d less below = apart (suc i) (suc j) d (omega (arith, less)) (omega (arith, below))

targets_at : (rows : List DeferRow) (i : ℕ) (row : DeferRow) → AreApart rows → slice_get rows i ≡ Some row → targets rows row.token ≡ row.to
targets_at [] i row apart at = absurd (cc)
targets_at (first ∷ rows) zero row apart at =
    let here : first ≡ row = cc in
    subst (λ r. cond (eqb r.token row.token) r.to (targets rows row.token) ≡ row.to) (sym here) (ap (λ b. cond b row.to (targets rows row.token)) (eq-eqb row.token row.token refl))
targets_at (first ∷ rows) (suc i) row apart at =
    let within : i < length rows = slice_get_within rows i row at in
    let other : first.token ≢ (get_or rows i first).token = apart 0 (suc i) first (omega arith) (omega (arith, within)) in
    let is : get_or rows i first ≡ row = get_or_from_slice_get rows i row first at in
    let apart_here : first.token ≢ row.token = subst (λ (r : DeferRow). first.token ≢ r.token) is other in
    ap (λ b. cond b first.to (targets rows row.token)) (ne_eqb first.token row.token apart_here) ∙ targets_at rows i row (rest_apart first rows apart) at

-- a token without a row has no targets
pub no_targets : (rows : List DeferRow) (k : ℕ) → is_deferred rows k ≡ false → targets rows k ≡ []
no_targets [] k none = refl
no_targets (row ∷ rows) k none = by_test (eqb row.token k) none (no_targets rows k)
  where
    by_test : (b : Bool) → b || is_deferred rows k ≡ false → (is_deferred rows k ≡ false → targets rows k ≡ []) → cond b row.to (targets rows k) ≡ []
    by_test true h more = absurd (false≢true (sym h))
    by_test false h more = more h

-- ---- the indices of rows

module _ (tokens n : ℕ) (rows : List DeferRow) (row : DeferRow) (below : n < length rows) (at : row ≡ get_or rows n row) where
  place_kept : (k : ℕ) → row.token ≢ k → (o : Option ℕ) → IsPlace rows n k o → IsPlace rows (n + 1) k o
  place_kept k other (Some i) is = is
  place_kept k other None is =
      list_any_more (λ (r : DeferRow). r.token == k) rows n row below
      ∙ ap (λ b. b || eqb (get_or rows n row).token k) is
      ∙ ap (λ (r : DeferRow). eqb r.token k) (sym at) ∙ ne_eqb row.token k other

  pub places_more : (old new : List (Option ℕ)) → ArePlaces tokens rows n old → length new ≡ length old
      → ((t : ℕ) → t < length old → slice_index_or new t None ≡ cond (eqb row.token t) (Some n) (slice_index_or old t None)) → ArePlaces tokens rows (n + 1) new
  places_more old new are len each = record { size = len ∙ are.size; each = λ k in_range. by_token k in_range (cases_eq row.token k) }
    where
      by_token : (k : ℕ) → k < tokens → (row.token ≡ k) ⊎ (row.token ≢ k) → IsPlace rows (n + 1) k (slice_index_or new k None)
      by_token k in_range (inl same) =
          let new_is : slice_index_or new k None ≡ Some n = each k (omega (arith, in_range, are.size)) ∙ ap (λ b. cond b (Some n) (slice_index_or old k None)) (eq-eqb row.token k same) in
          subst (IsPlace rows (n + 1) k) (sym new_is) (record { row = row; at = slice_get_read rows (length rows) n row refl below at; is = same })
      by_token k in_range (inr other) =
          let new_is : slice_index_or new k None ≡ slice_index_or old k None = each k (omega (arith, in_range, are.size)) ∙ ap (λ b. cond b (Some n) (slice_index_or old k None)) (ne_eqb row.token k other) in
          subst (IsPlace rows (n + 1) k) (sym new_is) (place_kept k other (slice_index_or old k None) (are.each k in_range))

-- what a token's place finds
pub place_within : (rows : List DeferRow) (k i : ℕ) (o : Option ℕ) → IsPlace rows (length rows) k o → o ≡ Some i → i < length rows
place_within rows k i None is e = absurd (cc)
place_within rows k i (Some j) is e = let same : j ≡ i = cc in subst (λ m. m < length rows) same (slice_get_within rows j is.row is.at)

pub place_targets : (rows : List DeferRow) (k i : ℕ) (o : Option ℕ) (row : DeferRow) → AreApart rows → IsPlace rows (length rows) k o → o ≡ Some i → row ≡ get_or rows i row → row.to ≡ targets rows k
place_targets rows k i None row apart is e at = absurd (cc)
place_targets rows k i (Some j) row apart is e at =
    let same : j ≡ i = cc in
    let found : is.row ≡ row = sym (get_or_from_slice_get rows j is.row row is.at) ∙ ap (λ m. get_or rows m row) same ∙ sym at in
    ap (λ (r : DeferRow). r.to) (sym found) ∙ sym (targets_at rows j is.row apart is.at) ∙ ap (targets rows) is.is

pub place_none : (rows : List DeferRow) (k : ℕ) (o : Option ℕ) → IsPlace rows (length rows) k o → o ≡ None → [] ≡ targets rows k
place_none rows k (Some j) is e = absurd (cc)
place_none rows k None is e = sym (no_targets rows k (ap (λ rs. is_deferred rs k) (sym (take-length rows)) ∙ is))

-- ---- the lists of those that wait

filter_more : (p : ℕ → Bool) (a n j : ℕ) → a + n ≡ j → filter p (range_with_len a (suc n)) ≡ filter p (range_with_len a n) ++ cond (p j) (j ∷ []) []
filter_more p a zero j is = ap (λ k. cond (p k) (k ∷ []) []) same
  where
    same : a ≡ j
    same = omega (arith, is)
filter_more p a (suc n) j is = by_test (p a) (filter_more p (a + 1) n j (omega (arith, is)))
  where
    by_test : (b : Bool) → filter p (range_with_len (a + 1) (suc n)) ≡ filter p (range_with_len (a + 1) n) ++ cond (p j) (j ∷ []) []
        → cond b (a ∷ filter p (range_with_len (a + 1) (suc n))) (filter p (range_with_len (a + 1) (suc n))) ≡ cond b (a ∷ filter p (range_with_len (a + 1) n)) (filter p (range_with_len (a + 1) n)) ++ cond (p j) (j ∷ []) []
    by_test true more = ap (λ ks. a ∷ ks) more
    by_test false more = more

-- the next token is added to the lists of its targets
pub waiters_more : (tokens n : ℕ) (rows : List DeferRow) (old new : List (List ℕ)) → AreWaiters tokens rows n old → GainsWaiter old new n (waits_for rows n) → AreWaiters tokens rows (n + 1) new
waiters_more tokens n rows old new are gains = record {
  size = gains.size ∙ are.size;
  each = λ t below. gains.each t (omega (arith, below, are.size)) ∙ ap (λ ks. ks ++ cond (waits_for rows n t) (n ∷ []) []) (are.each t below) ∙ sym (filter_more (λ k. waits_for rows k t) 0 n n (omega arith)) ∙ ap (λ m. waiters rows m t) one_more;
}
  where
    one_more : suc n ≡ n + 1
    one_more = omega arith

-- Rows of different tokens.
use Rattle.std.proofs.Common.{◌≡◌, ◌≢◌, ◌⊎◌, inl, inr, ℕ, zero, suc, ◌+◌, ◌-◌, ◌<◌, ◌≤◌, true, false, ◌||◌, List, [], ◌∷◌, length, take, drop, get_or, sym, refl, ap, ◌∙◌, arith}
use Rattle.std.proofs.lemmas.Bool.{cases_eq, false≢true, eq-eqb, ne_eqb}
use Rattle.std.proofs.lemmas.List.{length-drop, take_all}
use Rattle.std.proofs.lemmas.Option.{get_or_from_slice_get, slice_get_read}
use Rattle.pipe_lines.specs.declared.deferral.DeferRow.{DeferRow}
use Rattle.pipe_lines.specs.DeferRows.{AreApart, is_deferred}

-- none from an index on has the token
pub none_from : (rows : List DeferRow) (n k : ℕ) → is_deferred (drop n rows) k ≡ false → (j : ℕ) (d : DeferRow) → n ≤ j → j < length rows → (get_or rows j d).token ≢ k
none_from [] n k none j d from below = absurd (omega (arith, below))
none_from (row ∷ rows) (suc n) k none zero d from below = absurd (omega (arith, from))
none_from (row ∷ rows) (suc n) k none (suc j) d from below = none_from rows n k none j d (omega (arith, from)) (omega (arith, below))
none_from (row ∷ rows) zero k none j d from below = by_place (cases_eq row.token k) j below (λ rest i in_rest. none_from rows zero k rest i d (omega arith) in_rest)
  where
    by_place : (row.token ≡ k) ⊎ (row.token ≢ k) → (i : ℕ) → i < length (row ∷ rows) → (is_deferred rows k ≡ false → (m : ℕ) → m < length rows → (get_or rows m d).token ≢ k) → (get_or (row ∷ rows) i d).token ≢ k
    by_place (inl same) i within more = absurd (false≢true (sym none ∙ ap (λ b. b || is_deferred rows k) (eq-eqb row.token k same)))
    by_place (inr other) zero within more = other
    by_place (inr other) (suc i) within more = more (sym (ap (λ b. b || is_deferred rows k) (ne_eqb row.token k other)) ∙ none) i (omega (arith, within))

-- where none has it, none is found
found_from : (rows : List DeferRow) (n k : ℕ) → ((j : ℕ) (d : DeferRow) → n ≤ j → j < length rows → (get_or rows j d).token ≢ k) → is_deferred (drop n rows) k ≡ false
found_from [] zero k none = refl
found_from [] (suc n) k none = refl
found_from (row ∷ rows) (suc n) k none = found_from rows n k (λ j d from below. none (suc j) d (omega (arith, from)) (omega (arith, below)))
found_from (row ∷ rows) zero k none =
    ap (λ b. b || is_deferred rows k) (ne_eqb row.token k (none 0 row (omega arith) (omega arith)))
    ∙ found_from rows zero k (λ j d from below. none (suc j) d (omega arith) (omega (arith, below)))

-- the rows behind an index, as a slice
rest_is : (rows : List DeferRow) (n : ℕ) → take (length rows - n) (drop n rows) ≡ drop n rows
rest_is rows n = take_all (length rows - n) (drop n rows) (omega (arith, length-drop n rows))

module _ (rows : List DeferRow) (n : ℕ) (row : DeferRow) (below : n < length rows) (at : row ≡ get_or rows n row) where
  row_is : (d : DeferRow) → get_or rows n d ≡ row
  row_is d = get_or_from_slice_get rows n row d (slice_get_read rows (length rows) n row refl below at)

  -- one row more differs from those behind it
  pub apart_more : is_deferred (take (length rows - (n + 1)) (drop (n + 1) rows)) row.token ≡ false
      → ((i j : ℕ) (d : DeferRow) → i < n → i < j → j < length rows → (get_or rows i d).token ≢ (get_or rows j d).token)
      → (i j : ℕ) (d : DeferRow) → i < n + 1 → i < j → j < length rows → (get_or rows i d).token ≢ (get_or rows j d).token
  apart_more none before i j d in_front less within = by_place (cases_eq i n)
    where
      by_place : (i ≡ n) ⊎ (i ≢ n) → (get_or rows i d).token ≢ (get_or rows j d).token
      by_place (inr other) = before i j d (omega (arith, in_front, other)) less within
      by_place (inl same) = λ equal.
          none_from rows (n + 1) row.token (ap (λ rs. is_deferred rs row.token) (sym (rest_is rows (n + 1))) ∙ none) j d (omega (arith, less, same)) within
          (sym equal ∙ ap (λ m. (get_or rows m d).token) same ∙ ap (λ (r : DeferRow). r.token) (row_is d))

  -- a second row of a token
  pub not_apart : is_deferred (take (length rows - (n + 1)) (drop (n + 1) rows)) row.token ≡ true → AreApart rows → ⊥
  not_apart found apart = false≢true (sym (found_from rows (n + 1) row.token (λ j d from within equal.
      apart n j d (omega (arith, from)) within (ap (λ (r : DeferRow). r.token) (row_is d) ∙ sym equal))) ∙ ap (λ rs. is_deferred rs row.token) (sym (rest_is rows (n + 1))) ∙ found)

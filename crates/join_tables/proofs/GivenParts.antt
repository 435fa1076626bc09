-- The parts of what lies in slots, after one more.
use Rattle.std.proofs.Common.{◌≡◌, ◌⊎◌, inl, inr, ℕ, ◌+◌, ◌<◌, ◌≤◌, List, [], ◌∷◌, ◌++◌, length, map, Some, ap, ◌∙◌, arith}
use Rattle.std.specs.Prelude.{slice_get}
use Rattle.std.proofs.lemmas.Bool.{cases_lt}
use Rattle.std.proofs.lemmas.List.{map-append, length-map, length_push}
use Rattle.journal_rules.specs.declared.entry.Part.{Part}
use Rattle.journal_rules.proofs.Snoc.{slice_get_push_last, slice_get_push_below}

-- in the slots, whose parts are these
pub first_more : {S : Type 0} (part : S → List Part) (want : ℕ → List Part) (xs ys : List S) (x : S) (n : ℕ) → ys ≡ xs ++ x ∷ [] → length xs ≡ n
    → ((e : ℕ) → e < length xs → slice_get (map part xs) e ≡ Some (want e)) → part x ≡ want n → (length ys ≡ n + 1) × ((e : ℕ) → e < length ys → slice_get (map part ys) e ≡ Some (want e))
first_more part want xs ys x n is len each here = (ap length is ∙ length_push xs x ∙ ap (λ k. k + 1) len, now)
  where
    now : (e : ℕ) → e < length ys → slice_get (map part ys) e ≡ Some (want e)
    now e below = ap (λ zs. slice_get (map part zs) e) is ∙ ap (λ zs. slice_get zs e) (map-append part xs (x ∷ [])) ∙ by_place (cases_lt e (length xs))
      where
        by_place : (e < length xs) ⊎ (length xs ≤ e) → slice_get (map part xs ++ part x ∷ []) e ≡ Some (want e)
        by_place (inl lt) = slice_get_push_below (map part xs) (part x) e (omega (arith, lt, length-map xs part)) ∙ each e lt
        by_place (inr past) =
            let at : e ≡ length (map part xs) = omega (arith, past, below, ap length is, length_push xs x, length-map xs part) in
            let last : n ≡ e = omega (arith, past, below, ap length is, length_push xs x, len) in
            ap (slice_get (map part xs ++ part x ∷ [])) at ∙ slice_get_push_last (map part xs) (part x) ∙ ap Some (here ∙ ap want last)

-- A walk, while a loop goes over the items.
use Rattle.std.proofs.Common.{◌≡◌, ◌≢◌, ℕ, ◌+◌, ◌<◌, List, ◌∷◌, map, length, drop, get_or, Result, Ok, Err, refl, ◌∙◌, add-one}
use Rattle.std.proofs.lemmas.List.{get_or_default}
use Rattle.std.proofs.Math.Seq.{drop-cons}
use Rattle.graph_drafts.specs.declared.refusals.GraphError.{GraphError}
use Rattle.graph_drafts.specs.declared.refusals.GraphError.TheVariants.{NoMemory}
use Rattle.graph_drafts.specs.Steps.{walk}

-- the walk over the values goes on from this state at place i
abbrev pub GoesOn : {S V A : Type 0} → (V → A) → (S → A → Result S GraphError) → S → List V → ℕ → S → Type 0
GoesOn v step start vs i now = walk step start (map v vs) ≡ walk step now (map v (drop i vs))

pub next_of : {V A : Type 0} (v : V → A) (vs : List V) (i : ℕ) (x : V) → i < length vs → x ≡ get_or vs i x → map v (drop i vs) ≡ v x ∷ map v (drop (i + 1) vs)
next_of v vs i x within is =
    let e : drop i vs ≡ x ∷ drop (i + 1) vs = drop-cons vs i x within ∙ rw (← is, add-one i) refl in
    rw e refl

pub GoesOn-more : {S V A : Type 0} (v : V → A) (step : S → A → Result S GraphError) (start : S) (vs : List V) (i : ℕ) (x : V) (now next : S)
    → i < length vs → x ≡ get_or vs i x → step now (v x) ≡ Ok next → GoesOn v step start vs i now → GoesOn v step start vs (i + 1) next
GoesOn-more v step start vs i x now next within is ok so_far =
    so_far ∙ rw (next_of v vs i x within is) (rw ok refl)

pub GoesOn-refused : {S V A : Type 0} (v : V → A) (step : S → A → Result S GraphError) (start : S) (vs : List V) (i : ℕ) (x : V) (now : S) (e : GraphError)
    → i < length vs → x ≡ get_or vs i x → (e ≢ NoMemory → step now (v x) ≡ Err e) → GoesOn v step start vs i now → e ≢ NoMemory → walk step start (map v vs) ≡ Err e
GoesOn-refused v step start vs i x now e within is refused so_far sure =
    so_far ∙ rw (next_of v vs i x within is) (rw (refused sure) refl)

-- ---- the same where the item is written with some default

pub GoesOn-more-at : {S V A : Type 0} (v : V → A) (step : S → A → Result S GraphError) (start : S) (vs : List V) (i : ℕ) (d : V) (now next : S)
    → i < length vs → step now (v (get_or vs i d)) ≡ Ok next → GoesOn v step start vs i now → GoesOn v step start vs (i + 1) next
GoesOn-more-at v step start vs i d now next within = GoesOn-more v step start vs i (get_or vs i d) now next within (get_or_default vs i d (get_or vs i d) within)

pub GoesOn-refused-at : {S V A : Type 0} (v : V → A) (step : S → A → Result S GraphError) (start : S) (vs : List V) (i : ℕ) (d : V) (now : S) (e : GraphError)
    → i < length vs → (e ≢ NoMemory → step now (v (get_or vs i d)) ≡ Err e) → GoesOn v step start vs i now → e ≢ NoMemory → walk step start (map v vs) ≡ Err e
GoesOn-refused-at v step start vs i d now e within = GoesOn-refused v step start vs i (get_or vs i d) now e within (get_or_default vs i d (get_or vs i d) within)

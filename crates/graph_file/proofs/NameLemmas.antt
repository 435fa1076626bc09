-- Names, while a map takes the place of one after another.
use Rattle.std.proofs.Common.{◌≡◌, ℕ, ◌+◌, ◌<◌, ◌≤◌, List, [], ◌∷◌, ◌++◌, length, take, drop, get_or, Bool, true, false, not, ◌||◌, cond, ◌&&◌, ◌⊎◌, inl, inr, Option, Some, None, is_some, is_none, position, Ok, Err, Bor, refl, ap, sym, subst, ◌∙◌, bytes_eq, arith, add-one}
use Rattle.std.proofs.lemmas.Bool.{and_parts, cases_lt}
use Rattle.std.proofs.lemmas.Iterator.Adapters.{position_from-zero}
use Rattle.std.proofs.lemmas.List.{get_or_default, get_or-map, length-map, take_more, take_all, drop_all, length-take-le}
use Rattle.std.proofs.Math.Seq.{drop-cons}
use Rattle.std.specs.HashMap.{HashMap}
use Rattle.std.specs.List.{list_any, position_from}
use Rattle.graph_drafts.specs.declared.refusals.GraphError.{GraphError}
use Rattle.graph_file.specs.PlanText.{add_name}
use Rattle.graph_drafts.specs.Steps.{walk}
use Rattle.graph_file.specs.inside.Lookups.{AreNew, HasPlaces, KeepsPlace, OccurOnce, place_in}
use Rattle.graph_drafts.specs.inside.Reading.{strings}
use Rattle.graph_file.proofs.PlaceLemmas.{HasPlaces-more}

some_from_step : (b : Bool) (i : ℕ) (rest : Option ℕ) (any : Bool) → is_some rest ≡ any → is_some (cond b (Some i) rest) ≡ (b || any)
some_from_step true i rest any e = refl
some_from_step false i rest any e = e

some_from : {A : Type 0} (p : A → Bool) (i : ℕ) (xs : List A) → is_some (position_from p i xs) ≡ list_any p xs
some_from p i [] = refl
some_from p i (x ∷ xs) = some_from_step (p x) i _ _ (some_from p (i + 1) xs)

-- there is a place just where there is such an item
pub some_place : {A : Type 0} (p : A → Bool) (xs : List A) → is_some (position p xs) ≡ list_any p xs
some_place p xs = ap is_some (position_from-zero p xs) ∙ some_from p 0 xs

none-not : {A : Type 0} (o : Option A) → is_none o ≡ not (is_some o)
none-not None = refl
none-not (Some x) = refl

-- a name is new just where none of these is the same
pub new-name : {S : Type 0} (places : HashMap (Bor (List ℕ)) ℕ S) (names : List (List ℕ)) (name : List ℕ) (new : Bool) → HasPlaces places names → new ≡ is_none (place_in places name) → new ≡ not (list_any (bytes_eq name) names)
new-name places names name new has noted = noted ∙ none-not _ ∙ ap not (ap is_some (has name) ∙ some_place (bytes_eq name) names)

-- the same where each name is known to occur once, or else a map has the places
pub new-or_once : {S : Type 0} (places : HashMap (Bor (List ℕ)) ℕ S) (names : List (List ℕ)) (i : ℕ) (name : List ℕ) (once new : Bool) → i < length names → name ≡ get_or names i name
    → (once ≡ true → OccurOnce names) → (once ≡ false → HasPlaces places (take i names)) → new ≡ (once || is_none (place_in places name)) → new ≡ not (list_any (bytes_eq name) (take i names))
new-or_once places names i name true new within is once has noted = noted ∙ sym (once refl i name within is)
new-or_once places names i name false new within is once has noted = new-name places (take i names) name new (has refl) noted

-- ---- references to names

pub string-within : (names : List (Bor (List ℕ))) (i : ℕ) → i < length names → i < length (strings names)
string-within names i within = rw (length-map names (λ s. s.now)) within

pub string-at : (names : List (Bor (List ℕ))) (i : ℕ) (name : Bor (List ℕ)) → i < length names → name ≡ get_or names i name → name.now ≡ get_or (strings names) i name.now
string-at names i name within is = ap (λ s. s.now) is ∙ sym (get_or-map (λ s. s.now) names i name name.now within)

-- one name more has its place
pub HasPlaces-string : {S : Type 0} (old new : HashMap (Bor (List ℕ)) ℕ S) (names : List (Bor (List ℕ))) (i : ℕ) (name : Bor (List ℕ)) → i < length names → name ≡ get_or names i name
    → HasPlaces old (take i (strings names)) → KeepsPlace old name.now i new → HasPlaces new (take (i + 1) (strings names))
HasPlaces-string old new names i name within is = HasPlaces-more old new (strings names) i name.now (string-within names i within) (string-at names i name within is)

-- one name more occurs once, if it is new
pub AreNew-more : (names : List (Bor (List ℕ))) (i : ℕ) (name : Bor (List ℕ)) (once new : Bool) → i < length names → name ≡ get_or names i name → new ≡ not (list_any (bytes_eq name.now) (take i (strings names)))
    → (once ≡ true → AreNew (strings names) i) → (once && new) ≡ true → AreNew (strings names) (i + 1)
AreNew-more names i name once new within is noted so_far both k other less at = by_place (cases_lt k i)
  where
    by_place : (k < i) ⊎ (i ≤ k) → not (list_any (bytes_eq other) (take k (strings names))) ≡ true
    by_place (inl before) = so_far (and_parts once new both).0 k other before at
    by_place (inr past) =
        let here : k ≡ i = omega (arith, less, past) in
        let found : other ≡ get_or (strings names) i other = subst (λ j. other ≡ get_or (strings names) j other) here at in
        let same : other ≡ name.now = found ∙ get_or_default (strings names) i other name.now (string-within names i within) ∙ sym (string-at names i name within is) in
        rw (here, same) (sym noted ∙ (and_parts once new both).1)

-- past the end each occurs once
pub AreNew-all : (names : List (Bor (List ℕ))) (i : ℕ) → length names ≤ i → AreNew (strings names) i → OccurOnce (strings names)
AreNew-all names i past so_far k name less at = let count : length (strings names) ≡ length names = length-map names (λ s. s.now) in so_far k name (omega (arith, less, past, count)) at

-- ---- the walk over the names

-- a list of one name has none twice
pub few_names : (names : List (Bor (List ℕ))) → length names < 2 → (refusal : ℕ → GraphError) → walk (add_name refusal) [] (strings names) ≡ Ok (strings names)
few_names [] few refusal = refl
few_names (a ∷ []) few refusal = refl
few_names (a ∷ b ∷ rest) few refusal = absurd (omega (arith, few))

-- the walk goes on from the names before place i
abbrev pub HasWalked : List (List ℕ) → ℕ → Type 0
HasWalked names i = (refusal : ℕ → GraphError) → walk (add_name refusal) [] names ≡ walk (add_name refusal) (take i names) (drop i names)

step_new : (refusal : ℕ → GraphError) (new : Bool) (before : List (List ℕ)) (name : List ℕ) → new ≡ not (list_any (bytes_eq name) before) → new ≡ true → add_name refusal before name ≡ Ok (before ++ name ∷ [])
step_new refusal new before name is so = rw (← is, so) refl

step_old : (refusal : ℕ → GraphError) (new : Bool) (before : List (List ℕ)) (name : List ℕ) → new ≡ not (list_any (bytes_eq name) before) → new ≡ false → add_name refusal before name ≡ Err (refusal (length before))
step_old refusal new before name is so = rw (← is, so) refl

module _ (names : List (List ℕ)) (i : ℕ) (name : List ℕ) (new : Bool) (within : i < length names) (is : name ≡ get_or names i name) (noted : new ≡ not (list_any (bytes_eq name) (take i names))) (so_far : HasWalked names i) where
  rest-of : drop i names ≡ name ∷ drop (i + 1) names
  rest-of = drop-cons names i name within ∙ rw (← is, add-one i) refl

  longer-by : take (i + 1) names ≡ take i names ++ name ∷ []
  longer-by = take_more names i name within ∙ rw (← is) refl

  pub HasWalked-more : new ≡ true → HasWalked names (i + 1)
  HasWalked-more so refusal = so_far refusal ∙ rw (rest-of, longer-by) (rw (step_new refusal new (take i names) name noted so) refl)

  pub HasWalked-refused : new ≡ false → (refusal : ℕ → GraphError) → walk (add_name refusal) [] names ≡ Err (refusal i)
  HasWalked-refused so refusal = so_far refusal ∙ rw (rest-of) (rw (step_old refusal new (take i names) name noted so, length-take-le i names (omega (arith, within))) refl)

pub HasWalked-end : (names : List (List ℕ)) (i : ℕ) → length names ≤ i → HasWalked names i → (refusal : ℕ → GraphError) → walk (add_name refusal) [] names ≡ Ok names
HasWalked-end names i past so_far refusal = so_far refusal ∙ rw (take_all i names past, drop_all i names past) refl

-- past the end all names were taken
pub all-strings : (names : List (Bor (List ℕ))) (i : ℕ) → length names ≤ i → take i (strings names) ≡ strings names
all-strings names i past = let count : length (strings names) ≡ length names = length-map names (λ s. s.now) in take_all i (strings names) (omega (arith, past, count))

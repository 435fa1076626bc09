-- The first place of a name, while names are put at the end.
use Rattle.std.proofs.Common.{◌≡◌, ℕ, suc, ◌+◌, ◌<◌, List, [], ◌∷◌, ◌++◌, length, take, get_or, Bool, true, false, cond, Option, Some, None, refl, sym, ◌∙◌, bytes_eq, arith, add-zero}
use Rattle.std.proofs.lemmas.Iterator.Adapters.{position_from-zero}
use Rattle.std.proofs.lemmas.List.{take_more, length-take-le}
use Rattle.std.specs.HashMap.{HashMap}
use Rattle.std.specs.List.{position, position_from}
use Rattle.std.specs.Option.{option_or}
use Rattle.std.specs.Borrow.{Bor}
use Rattle.graph_file.specs.inside.Lookups.{HasPlaces, KeepsPlace}

position_from-snoc_step : (b : Bool) (i : ℕ) (rest later : Option ℕ) (last : Option ℕ) → later ≡ option_or rest last → cond b (Some i) later ≡ option_or (cond b (Some i) rest) last
position_from-snoc_step true i rest later last e = refl
position_from-snoc_step false i rest later last e = e

position_from-snoc : {K : Type 0} (p : K → Bool) (i : ℕ) (xs : List K) (y : K) → position_from p i (xs ++ y ∷ []) ≡ option_or (position_from p i xs) (cond (p y) (Some (i + length xs)) None)
position_from-snoc p i [] y = rw (add-zero) refl
position_from-snoc p i (x ∷ xs) y =
    let number : i + 1 + length xs ≡ i + suc (length xs) = omega arith in
    position_from-snoc_step (p x) i _ _ _ (position_from-snoc p (i + 1) xs y ∙ rw number refl)

-- one name more at the end is looked at last
pub position-snoc : {K : Type 0} (p : K → Bool) (xs : List K) (y : K) → position p (xs ++ y ∷ []) ≡ option_or (position p xs) (cond (p y) (Some (length xs)) None)
position-snoc p xs y =
    let number : 0 + length xs ≡ length xs = omega arith in
    position_from-zero p (xs ++ y ∷ []) ∙ position_from-snoc p 0 xs y ∙ rw (← position_from-zero p xs, number) refl

-- one name more has its place
pub HasPlaces-more : {S : Type 0} (old new : HashMap (Bor (List ℕ)) ℕ S) (names : List (List ℕ)) (i : ℕ) (name : List ℕ) → i < length names → name ≡ get_or names i name
    → HasPlaces old (take i names) → KeepsPlace old name i new → HasPlaces new (take (i + 1) names)
HasPlaces-more old new names i name within is so_far kept q =
    let longer : take (i + 1) names ≡ take i names ++ name ∷ [] = take_more names i name within ∙ rw (← is) refl in
    let number : length (take i names) ≡ i = length-take-le i names (omega arith) in
    kept q ∙ rw (so_far q) (sym (rw longer (position-snoc (bytes_eq q) (take i names) name ∙ rw number refl)))

-- one name more at the end has its place
pub HasPlaces-snoc : {S : Type 0} (old new : HashMap (Bor (List ℕ)) ℕ S) (names longer : List (List ℕ)) (name : List ℕ) (place : ℕ) → place ≡ length names → longer ≡ names ++ name ∷ []
    → HasPlaces old names → KeepsPlace old name place new → HasPlaces new longer
HasPlaces-snoc old new names longer name place number is so_far kept q =
    kept q ∙ rw (so_far q, number, is) (sym (position-snoc (bytes_eq q) names name))

-- Items at places of lists.
use Rattle.std.proofs.Common.{◌≡◌, ◌⊎◌, inl, inr, ℕ, zero, suc, ◌+◌, ◌<◌, Bool, true, false, ◌&&◌, cond, List, [], ◌∷◌, ◌++◌, length, map, Some, refl, ap, ◌∙◌, subst, arith}
use Rattle.std.specs.Prelude.{slice_get, filter, count_by}
use Rattle.std.proofs.lemmas.List.Sums.{sum_by-cons}
use Rattle.std.specs.List.{AllByRecursion, AllZip}
use Rattle.task_graph.specs.Places.{places, places_from}

-- an item keeps its place where more follow
pub get_append : {X : Type 0} (xs ys : List X) (k : ℕ) (x : X) → slice_get xs k ≡ Some x → slice_get (xs ++ ys) k ≡ Some x
get_append [] ys k x h = absurd (cc)
get_append (z ∷ zs) ys zero x h = h
get_append (z ∷ zs) ys (suc k) x h = get_append zs ys k x h

-- an item of a list with one more is one of the list's, or that one
pub get_push : {X : Type 0} (xs : List X) (y : X) (k : ℕ) (z : X) → slice_get (xs ++ y ∷ []) k ≡ Some z → (slice_get xs k ≡ Some z) ⊎ ((k ≡ length xs) × (z ≡ y))
get_push [] y zero z h = inr (refl, cc)
get_push [] y (suc k) z h = absurd (cc)
get_push (x ∷ xs) y zero z h = inl h
get_push (x ∷ xs) y (suc k) z h = up (get_push xs y k z h)
  where
    up : (slice_get xs k ≡ Some z) ⊎ ((k ≡ length xs) × (z ≡ y)) → (slice_get xs k ≡ Some z) ⊎ ((suc k ≡ length (x ∷ xs)) × (z ≡ y))
    up (inl old) = inl old
    up (inr last) = inr (omega (arith, last.0), last.1)

-- an item of a list below its end is there when the list is cut
pub get_front : {X : Type 0} (xs ys : List X) (k : ℕ) (x : X) → k < length xs → slice_get (xs ++ ys) k ≡ Some x → slice_get xs k ≡ Some x
get_front [] ys k x below h = absurd (omega arith)
get_front (z ∷ zs) ys zero x below h = h
get_front (z ∷ zs) ys (suc k) x below h = get_front zs ys k x (omega arith) h

-- the items at the places of two lists, by what follows for each
pub zip_weaken : {X Y : Type 0} (R S : X → Y → Type 0) → ((x : X) (y : Y) → R x y → S x y) → (xs : List X) (ys : List Y) → AllZip R xs ys → AllZip S xs ys
zip_weaken R S less [] [] r = tt
zip_weaken R S less [] (y ∷ ys) r = r
zip_weaken R S less (x ∷ xs) [] r = r
zip_weaken R S less (x ∷ xs) (y ∷ ys) r = (less x y r.0, zip_weaken R S less xs ys r.1)

pub zip_mapped : {X Y Z : Type 0} (f : Y → Z) (R : X → Y → Type 0) (S : X → Z → Type 0) (xs : List X) (ys : List Y) → AllByRecursion (λ x. (y : Y) → R x y → S x (f y)) xs → AllZip R xs ys → AllZip S xs (map f ys)
zip_mapped f R S [] [] each r = tt
zip_mapped f R S [] (y ∷ ys) each r = r
zip_mapped f R S (x ∷ xs) [] each r = r
zip_mapped f R S (x ∷ xs) (y ∷ ys) each r = (each.0 y r.0, zip_mapped f R S xs ys each.1 r.1)

-- what each has by what each has
pub all_weaken : {X : Type 0} (P Q : X → Type 0) → ((x : X) → P x → Q x) → (xs : List X) → AllByRecursion P xs → AllByRecursion Q xs
all_weaken P Q less [] p = tt
all_weaken P Q less (x ∷ xs) p = (less x p.0, all_weaken P Q less xs p.1)

pub all_both : {X : Type 0} (P Q : X → Type 0) → (xs : List X) → AllByRecursion P xs → AllByRecursion Q xs → AllByRecursion (λ x. P x × Q x) xs
all_both P Q [] p q = tt
all_both P Q (x ∷ xs) p q = ((p.0, q.0), all_both P Q xs p.1 q.1)

-- each of the places at which a test passes
all_places_from : {X : Type 0} (p : X → Bool) (P : ℕ → Type 0) (n : ℕ) (xs : List X) → ((i : ℕ) (x : X) → slice_get xs i ≡ Some x → p x ≡ true → P (n + i)) → AllByRecursion P (places_from p n xs)
all_places_from p P n [] each = tt
all_places_from p P n (x ∷ xs) each = by_test (p x) refl (all_places_from p P (suc n) xs (λ i y is passes. subst P (omega arith) (each (suc i) y is passes)))
  where
    by_test : (b : Bool) → p x ≡ b → AllByRecursion P (places_from p (suc n) xs) → AllByRecursion P (cond b (n ∷ places_from p (suc n) xs) (places_from p (suc n) xs))
    by_test true passes rest = (subst P (omega arith) (each 0 x refl passes), rest)
    by_test false fails rest = rest

pub all_places : {X : Type 0} (p : X → Bool) (P : ℕ → Type 0) (xs : List X) → ((i : ℕ) (x : X) → slice_get xs i ≡ Some x → p x ≡ true → P i) → AllByRecursion P (places p xs)
all_places p P xs each = all_places_from p P 0 xs (λ i x is passes. subst P (omega arith) (each i x is passes))

-- the items that pass, and what they become, in a list after another
pub filter_append : {X : Type 0} (p : X → Bool) (xs ys : List X) → filter p (xs ++ ys) ≡ filter p xs ++ filter p ys
filter_append p [] ys = refl
filter_append p (x ∷ xs) ys = by_test (p x) (filter_append p xs ys)
  where
    by_test : (b : Bool) → filter p (xs ++ ys) ≡ filter p xs ++ filter p ys → cond b (x ∷ filter p (xs ++ ys)) (filter p (xs ++ ys)) ≡ cond b (x ∷ filter p xs) (filter p xs) ++ filter p ys
    by_test true rest = ap (λ zs. x ∷ zs) rest
    by_test false rest = rest

pub map_append : {X Y : Type 0} (f : X → Y) (xs ys : List X) → map f (xs ++ ys) ≡ map f xs ++ map f ys
map_append f [] ys = refl
map_append f (x ∷ xs) ys = ap (λ zs. f x ∷ zs) (map_append f xs ys)

-- where a test passes nowhere, a narrower one doesn't either
pub none_strong : {X : Type 0} (p q : X → Bool) (n : ℕ) (xs : List X) → places_from p n xs ≡ [] → places_from (λ x. p x && q x) n xs ≡ []
none_strong p q n [] none = refl
none_strong p q n (x ∷ xs) none = by_test (p x) none (λ h. none_strong p q (suc n) xs h)
  where
    by_test : (b : Bool) → cond b (n ∷ places_from p (suc n) xs) (places_from p (suc n) xs) ≡ [] → (places_from p (suc n) xs ≡ [] → places_from (λ y. p y && q y) (suc n) xs ≡ [])
        → cond (b && q x) (n ∷ places_from (λ y. p y && q y) (suc n) xs) (places_from (λ y. p y && q y) (suc n) xs) ≡ []
    by_test true h rest = absurd (cc)
    by_test false h rest = rest h

-- where no item passes a test, none is counted
pub count_none : {X : Type 0} (p : X → Bool) → ((x : X) → p x ≡ false) → (xs : List X) → count_by p xs ≡ 0
count_none p none [] = refl
count_none p none (x ∷ xs) = sum_by-cons (λ y. cond (p y) 1 0) x xs ∙ rw (none x) (omega (arith, count_none p none xs))

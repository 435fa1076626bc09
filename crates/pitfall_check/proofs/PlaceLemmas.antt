-- Members of a list, and the places at which a test passes.
use Rattle.std.proofs.Common.{◌≡◌, ◌≢◌, ◌⊎◌, inl, inr, ℕ, zero, suc, ◌+◌, ◌≤◌, Bool, true, false, List, [], ◌∷◌, ◌++◌, length, get_or, take, replicate, slice_get, Some, if◌then◌else◌, refl, sym, ◌∙◌, ◌<◌, subst, arith}
use Rattle.std.proofs.Math.Seq.{take-append_seam}
use Rattle.std.proofs.lemmas.List.{get_or_append_left, get_or_push, get_or-replicate, length-replicate, get_or_past}
use Rattle.std.proofs.str.Laws.{order}
use Rattle.std.specs.List.{Contains}
use Rattle.task_graph.specs.Places.{places, places_from}

-- items that are written back over as many others are all that is there
pub written_back : {X : Type 0} (n : ℕ) (new rest : List X) → length new ≡ n → take n (new ++ rest) ≡ new
written_back n new rest size = subst (λ m. take m (new ++ rest) ≡ new) size (take-append_seam new rest)

-- a fact of each number by its place, with one number more
pub each_push : (P : ℕ → ℕ → Type 0) (xs : List ℕ) (x n : ℕ) → length xs ≡ n → ((k : ℕ) → k < n → P k (get_or xs k 0)) → P n x → (k : ℕ) → k < n + 1 → P k (get_or (xs ++ x ∷ []) k 0)
each_push P xs x n len each last k below = elim (order k n) [
  | inl before ↦ subst (λ y. P k y) (sym (get_or_append_left xs (x ∷ []) 0 k (omega (arith, before, len)))) (each k before)
  | inr after ↦
      let here : n ≡ k = omega (arith, after, below) in
      subst (λ y. P k y) (sym (get_or_push xs x 0 k (len ∙ here))) (subst (λ j. P j x) here last)
]

-- each read of zeros gives 0
pub read_of_zeros : (n i : ℕ) → get_or {A = ℕ} (replicate n 0) i 0 ≡ 0
read_of_zeros n i = elim (order i n) [
  | inl below ↦ get_or-replicate n i 0 0 below
  | inr past ↦ get_or_past (replicate n 0) i 0 (omega (arith, past, length-replicate {A = ℕ} n 0))
]

-- a member is the first item or one of the others, and back
pub member_cases : {X : Type 0} (x : X) (xs : List X) (y : X) → Contains (x ∷ xs) y → (x ≡ y) ⊎ Contains xs y
member_cases x xs y (zero, below, same) = inl same
member_cases x xs y (suc k, below, same) = inr (k, omega arith, same)

pub member_first : {X : Type 0} (x : X) (xs : List X) → Contains (x ∷ xs) x
member_first x xs = (0, omega arith, refl)

pub member_later : {X : Type 0} (x : X) (xs : List X) (y : X) → Contains xs y → Contains (x ∷ xs) y
member_later x xs y (k, below, same) = (suc k, omega arith, same)

pub no_member : {X : Type 0} (y : X) → ¬ Contains [] y
no_member y (k, below, same) = absurd (omega arith)

-- a list that isn't empty has a member
pub some_member : {X : Type 0} (xs : List X) → xs ≢ [] → (x : X) × Contains xs x
some_member [] some = absurd (some refl)
some_member (x ∷ xs) some = (x, member_first x xs)

-- a place of a list at which an item passes
pub record PassesAtPlace {X : Type 0} (p : X → Bool) (xs : List X) (k : ℕ) : Type 0 where
  pub item : X
  pub is : slice_get xs k ≡ Some item
  pub passes : p item ≡ true

shifted : {X : Type 0} (p : X → Bool) (x : X) (xs : List X) (k : ℕ) → PassesAtPlace p xs k → PassesAtPlace p (x ∷ xs) (suc k)
shifted p x xs k at = record { item = at.item; is = at.is; passes = at.passes }

-- a place among those of a list that begins with one
listed_cases : {X : Type 0} (p : X → Bool) (n : ℕ) (x : X) (xs : List X) (e : ℕ) (b : Bool)
    → p x ≡ b
    → (Contains (places_from p (suc n) xs) e → (k : ℕ) × (e ≡ suc n + k) × PassesAtPlace p xs k)
    → Contains (if b then n ∷ places_from p (suc n) xs else places_from p (suc n) xs) e
    → (k : ℕ) × (e ≡ n + k) × PassesAtPlace p (x ∷ xs) k
listed_cases p n x xs e false fails more later =
    let found = more later in (suc found.0, omega (arith, found.1), shifted p x xs found.0 found.2)
listed_cases p n x xs e true passes more here = elim (member_cases n (places_from p (suc n) xs) e here) [
  | inl same ↦ (0, omega (arith, same), record { item = x; is = refl; passes = passes })
  | inr later ↦ let found = more later in (suc found.0, omega (arith, found.1), shifted p x xs found.0 found.2)
]

-- each listed place is one at which an item passes
listed_from : {X : Type 0} (p : X → Bool) (n : ℕ) (xs : List X) (e : ℕ) → Contains (places_from p n xs) e → (k : ℕ) × (e ≡ n + k) × PassesAtPlace p xs k
listed_from p n [] e here = absurd (no_member e here)
listed_from p n (x ∷ xs) e here = listed_cases p n x xs e (p x) refl (listed_from p (suc n) xs e) here

pub listed_passes : {X : Type 0} (p : X → Bool) (xs : List X) (e : ℕ) → Contains (places p xs) e → PassesAtPlace p xs e
listed_passes p xs e here =
    let found = listed_from p 0 xs e here in
    let same : found.0 ≡ e = omega (arith, found.1) in
    subst (PassesAtPlace p xs) same found.2

-- and back
first_listed : (b : Bool) (n : ℕ) (later : List ℕ) → b ≡ true → Contains (if b then n ∷ later else later) (n + 0)
first_listed true n later passes = (0, omega arith, omega arith)
first_listed false n later passes = absurd (cc)

later_listed : (b : Bool) (n : ℕ) (later : List ℕ) (e : ℕ) → Contains later e → Contains (if b then n ∷ later else later) e
later_listed true n later e here = member_later n later e here
later_listed false n later e here = here

passing_from : {X : Type 0} (p : X → Bool) (n : ℕ) (xs : List X) (k : ℕ) → PassesAtPlace p xs k → Contains (places_from p n xs) (n + k)
passing_from p n [] k at = absurd (let is = at.is in cc)
passing_from p n (x ∷ xs) zero at =
    let same = at.is in
    let passes = at.passes in
    first_listed (p x) n (places_from p (suc n) xs) (cc)
passing_from p n (x ∷ xs) (suc k) at =
    let rest = passing_from p (suc n) xs k (record { item = at.item; is = at.is; passes = at.passes }) in
    let same : suc n + k ≡ n + suc k = omega arith in
    later_listed (p x) n (places_from p (suc n) xs) (n + suc k) (subst (Contains (places_from p (suc n) xs)) same rest)

pub passing_listed : {X : Type 0} (p : X → Bool) (xs : List X) (k : ℕ) → PassesAtPlace p xs k → Contains (places p xs) k
passing_listed p xs k at = let same : 0 + k ≡ k = omega arith in subst (Contains (places p xs)) same (passing_from p 0 xs k at)

-- no more places are listed than there are items
shorter : (b : Bool) (n m : ℕ) (later : List ℕ) → length later ≤ m → length (if b then n ∷ later else later) ≤ suc m
shorter true n m later fits = omega (arith, fits)
shorter false n m later fits = omega (arith, fits)

listed_length_from : {X : Type 0} (p : X → Bool) (n : ℕ) (xs : List X) → length (places_from p n xs) ≤ length xs
listed_length_from p n [] = omega arith
listed_length_from p n (x ∷ xs) = shorter (p x) n (length xs) (places_from p (suc n) xs) (listed_length_from p (suc n) xs)

pub listed_length : {X : Type 0} (p : X → Bool) (xs : List X) → length (places p xs) ≤ length xs
listed_length p xs = listed_length_from p 0 xs

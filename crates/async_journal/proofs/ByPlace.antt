-- What lists and counts come to, by what is at each index.
use Rattle.std.proofs.Common.{◌≡◌, ◌≢◌, ◌⊎◌, inl, inr, ◌∙◌, ℕ, zero, suc, ◌+◌, ◌<◌, ◌≤◌, Bool, true, false, cond, eqb, List, [], ◌∷◌, ◌++◌, length, map, take, Option, Some, None, refl, sym, ap, subst, arith}
use Rattle.std.specs.Prelude.{slice_get, count_by, is_some}
use Rattle.std.specs.List.{position, position_from}
use Rattle.std.specs.Option.{option_map_or}
use Rattle.std.proofs.lemmas.Bool.{cases_eq, cases_lt}
use Rattle.std.proofs.lemmas.Bool.Decides.{nat_tests}
use Rattle.std.proofs.lemmas.List.{append-nil, append_assoc}
use Rattle.std.proofs.lemmas.List.Sums.{sum_by-cons}
use Rattle.std.proofs.lemmas.Iterator.Adapters.{position_from-zero}
use Rattle.std.specs.List.{AllByRecursion, AllZip, range_with_len}
use Rattle.std.specs.Prelude.{replicate, IsSomeAnd, fold, min}
use Rattle.journal_rules.specs.Complete.{least}
use Rattle.journal_rules.specs.Entries.{EachAfter, EachAfterThese}

pub not_true : (b : Bool) → (b ≡ true → ⊥) → b ≡ false
not_true true never = absurd (never refl)
not_true false never = refl

pub some_same : {X : Type 0} {x y : X} → Some x ≡ Some y → x ≡ y
some_same e = cc

module _ {X : Type 0} where
  pub in_range : (xs : List X) (k : ℕ) (x : X) → slice_get xs k ≡ Some x → k < length xs
  in_range [] k x at = absurd (cc)
  in_range (y ∷ ys) zero x at = omega arith
  in_range (y ∷ ys) (suc k) x at = let below = in_range ys k x at in omega arith

  pub in_front : (xs : List X) (n k : ℕ) (x : X) → slice_get (take n xs) k ≡ Some x → (k < n) × (slice_get xs k ≡ Some x)
  in_front [] zero k x at = absurd (cc)
  in_front [] (suc n) k x at = absurd (cc)
  in_front (y ∷ ys) zero k x at = absurd (cc)
  in_front (y ∷ ys) (suc n) zero x at = (omega arith, at)
  in_front (y ∷ ys) (suc n) (suc k) x at = let rest = in_front ys n k x at in (omega (arith, rest.0), rest.1)

  pub front_get : (xs : List X) (n k : ℕ) (x : X) → k < n → slice_get xs k ≡ Some x → slice_get (take n xs) k ≡ Some x
  front_get [] n k x less at = absurd (cc)
  front_get (y ∷ ys) zero k x less at = absurd (omega arith)
  front_get (y ∷ ys) (suc n) zero x less at = at
  front_get (y ∷ ys) (suc n) (suc k) x less at = front_get ys n k x (omega arith) at

  pub mapped_get : {Y : Type 0} (f : X → Y) (xs : List X) (k : ℕ) (x : X) → slice_get xs k ≡ Some x → slice_get (map f xs) k ≡ Some (f x)
  mapped_get f [] k x at = absurd (cc)
  mapped_get f (y ∷ ys) zero x at = ap (λ z. Some (f z)) (some_same at)
  mapped_get f (y ∷ ys) (suc k) x at = mapped_get f ys k x at

  pub in_mapped : {Y : Type 0} (f : X → Y) (xs : List X) (k : ℕ) (y : Y) → slice_get (map f xs) k ≡ Some y → (x : X) × (slice_get xs k ≡ Some x) × (y ≡ f x)
  in_mapped f [] k y at = absurd (cc)
  in_mapped f (x ∷ xs) zero y at = (x, refl, sym (some_same at))
  in_mapped f (x ∷ xs) (suc k) y at = in_mapped f xs k y at

  -- one of a count's items, at the front
  count_front : (p : X → Bool) (x : X) (xs : List X) (b : Bool) → p x ≡ b → count_by p (x ∷ xs) ≡ cond b 1 0 + count_by p xs
  count_front p x xs b is = sum_by-cons (λ y. cond (p y) 1 0) x xs ∙ ap (λ t. cond t 1 0 + count_by p xs) is

  pub none_pass : (p : X → Bool) (xs : List X) → ((k : ℕ) (x : X) → slice_get xs k ≡ Some x → p x ≡ false) → count_by p xs ≡ 0
  none_pass p [] each = refl
  none_pass p (x ∷ xs) each =
      let e = count_front p x xs false (each 0 x refl) in
      let rest = none_pass p xs (λ k y at. each (suc k) y at) in
      omega (arith, e, rest)

  pub some_pass : (p : X → Bool) (xs : List X) (k : ℕ) (x : X) → slice_get xs k ≡ Some x → p x ≡ true → 1 ≤ count_by p xs
  some_pass p [] k x at passes = absurd (cc)
  some_pass p (y ∷ ys) zero x at passes = let e = count_front p y ys true (ap p (some_same at) ∙ passes) in omega (arith, e)
  some_pass p (y ∷ ys) (suc k) x at passes =
      let rest = some_pass p ys k x at passes in
      let e = count_front p y ys (p y) refl in
      omega (arith, e, rest)

  pub one_that_passes : (p : X → Bool) (xs : List X) → 1 ≤ count_by p xs → (k : ℕ) × (x : X) × (slice_get xs k ≡ Some x) × (p x ≡ true)
  one_that_passes p [] some = absurd (omega arith)
  one_that_passes p (y ∷ ys) some = by_test (p y) refl (λ some_rest. one_that_passes p ys some_rest)
    where
      by_test : (b : Bool) → p y ≡ b → (1 ≤ count_by p ys → (k : ℕ) × (x : X) × (slice_get ys k ≡ Some x) × (p x ≡ true)) → (k : ℕ) × (x : X) × (slice_get (y ∷ ys) k ≡ Some x) × (p x ≡ true)
      by_test true is rest = (0, y, refl, is)
      by_test false is rest =
          let e = count_front p y ys false is in
          let found = rest (omega (arith, e, some)) in
          (suc found.0, found.1, found.2, found.3)

  pub one_passes : (p : X → Bool) (xs : List X) (k : ℕ) (x : X) → slice_get xs k ≡ Some x → p x ≡ true → ((j : ℕ) (y : X) → slice_get xs j ≡ Some y → p y ≡ true → j ≡ k) → count_by p xs ≡ 1
  one_passes p [] k x at passes only = absurd (cc)
  one_passes p (y ∷ ys) zero x at passes only =
      let e = count_front p y ys true (ap p (some_same at) ∙ passes) in
      let rest = none_pass p ys (λ j z at_j. not_true (p z) (λ is. let here : suc j ≡ 0 = only (suc j) z at_j is in absurd (omega arith))) in
      omega (arith, e, rest)
  one_passes p (y ∷ ys) (suc k) x at passes only =
      let miss = not_true (p y) (λ is. let here : 0 ≡ suc k = only 0 y refl is in absurd (omega arith)) in
      let e = count_front p y ys false miss in
      let rest = one_passes p ys k x at passes (λ j z at_j is. let here : suc j ≡ suc k = only (suc j) z at_j is in omega arith) in
      omega (arith, e, rest)

  pub at_most_one : (p : X → Bool) (xs : List X) → ((j k : ℕ) (x y : X) → slice_get xs j ≡ Some x → slice_get xs k ≡ Some y → p x ≡ true → p y ≡ true → j ≡ k) → count_by p xs ≤ 1
  at_most_one p xs only = by_order (cases_lt (count_by p xs) 1)
    where
      by_order : (count_by p xs < 1) ⊎ (1 ≤ count_by p xs) → count_by p xs ≤ 1
      by_order (inl less) = omega arith
      by_order (inr some) =
          let one = one_that_passes p xs some in
          let e = one_passes p xs one.0 one.1 one.2 one.3 (λ j y at is. only j one.0 y one.1 at one.2 is one.3) in
          omega (arith, e)

  pub only_place : (p : X → Bool) (xs : List X) (j k : ℕ) (x y : X) → count_by p xs ≤ 1 → slice_get xs j ≡ Some x → p x ≡ true → slice_get xs k ≡ Some y → p y ≡ true → j ≡ k
  only_place p [] j k x y few at_j x_passes at_k y_passes = absurd (cc)
  only_place p (z ∷ zs) zero zero x y few at_j x_passes at_k y_passes = refl
  only_place p (z ∷ zs) zero (suc k) x y few at_j x_passes at_k y_passes =
      let e = count_front p z zs true (ap p (some_same at_j) ∙ x_passes) in
      let some = some_pass p zs k y at_k y_passes in
      absurd (omega (arith, e, some, few))
  only_place p (z ∷ zs) (suc j) zero x y few at_j x_passes at_k y_passes =
      let e = count_front p z zs true (ap p (some_same at_k) ∙ y_passes) in
      let some = some_pass p zs j x at_j x_passes in
      absurd (omega (arith, e, some, few))
  only_place p (z ∷ zs) (suc j) (suc k) x y few at_j x_passes at_k y_passes =
      let e = count_front p z zs (p z) refl in
      ap suc (only_place p zs j k x y (omega (arith, e, few)) at_j x_passes at_k y_passes)

  -- where the one that passes is
  position_from_is : (p : X → Bool) (i : ℕ) (xs : List X) (k : ℕ) (x : X) → slice_get xs k ≡ Some x → p x ≡ true → ((j : ℕ) (y : X) → slice_get xs j ≡ Some y → p y ≡ true → j ≡ k) → position_from p i xs ≡ Some (i + k)
  position_from_is p i [] k x at passes only = absurd (cc)
  position_from_is p i (y ∷ ys) zero x at passes only =
      ap (λ b. cond b (Some i) (position_from p (i + 1) ys)) (ap p (some_same at) ∙ passes) ∙ ap Some (let e : i ≡ i + 0 = omega arith in e)
  position_from_is p i (y ∷ ys) (suc k) x at passes only =
      let miss = not_true (p y) (λ is. let here : 0 ≡ suc k = only 0 y refl is in absurd (omega arith)) in
      ap (λ b. cond b (Some i) (position_from p (i + 1) ys)) miss
      ∙ position_from_is p (i + 1) ys k x at passes (λ j z at_j is. let here : suc j ≡ suc k = only (suc j) z at_j is in omega arith)
      ∙ ap Some (let e : (i + 1) + k ≡ i + suc k = omega arith in e)

  pub position_is : (p : X → Bool) (xs : List X) (k : ℕ) (x : X) → slice_get xs k ≡ Some x → p x ≡ true → ((j : ℕ) (y : X) → slice_get xs j ≡ Some y → p y ≡ true → j ≡ k) → position p xs ≡ Some k
  position_is p xs k x at passes only =
      position_from-zero p xs ∙ position_from_is p 0 xs k x at passes only ∙ ap Some (let e : 0 + k ≡ k = omega arith in e)

-- numbers added up
abbrev sum_below : ℕ → (ℕ → ℕ) → ℕ
sum_below zero f = 0
sum_below (suc n) f = f n + sum_below n f

below_zero : (n : ℕ) (f : ℕ → ℕ) → ((u : ℕ) → f u ≡ 0) → sum_below n f ≡ 0
below_zero zero f each = refl
below_zero (suc n) f each = let rest = below_zero n f each in omega (arith, each n, rest)

below_add : (n : ℕ) (f g h : ℕ → ℕ) → ((u : ℕ) → f u ≡ g u + h u) → sum_below n f ≡ sum_below n g + sum_below n h
below_add zero f g h each = omega arith
below_add (suc n) f g h each = let rest = below_add n f g h each in omega (arith, each n, rest)

below_most : (n : ℕ) (f : ℕ → ℕ) → ((u : ℕ) → f u ≤ 1) → sum_below n f ≤ n
below_most zero f each = omega arith
below_most (suc n) f each = let rest = below_most n f each in omega (arith, each n, rest)

below_less : (n t : ℕ) (f : ℕ → ℕ) → ((u : ℕ) → f u ≤ 1) → t < n → f t ≡ 0 → sum_below n f < n
below_less zero t f each below none = absurd (omega arith)
below_less (suc n) t f each below none = by_case (cases_eq t n) (λ less. below_less n t f each less none)
  where
    by_case : (t ≡ n) ⊎ (t ≢ n) → (t < n → sum_below n f < n) → sum_below (suc n) f < suc n
    by_case (inl same) rest =
        let last : f n ≡ 0 = ap f (sym same) ∙ none in
        let most = below_most n f each in
        omega (arith, last, most)
    by_case (inr other) rest =
        let less = rest (omega (arith, below, other)) in
        omega (arith, each n, less)

abbrev one_at : ℕ → ℕ → ℕ
one_at v u = cond (eqb v u) 1 0

one_past : (n v : ℕ) → n ≤ v → sum_below n (one_at v) ≡ 0
one_past zero v past = refl
one_past (suc n) v past =
    let miss : eqb v n ≡ false = grind (arith, nat_tests) in
    let last : one_at v n ≡ 0 = ap (λ b. cond b 1 0) miss in
    let rest = one_past n v (omega arith) in
    omega (arith, last, rest)

one_below : (n v : ℕ) → v < n → sum_below n (one_at v) ≡ 1
one_below zero v below = absurd (omega arith)
one_below (suc n) v below = by_case (cases_eq v n) (λ less. one_below n v less)
  where
    by_case : (v ≡ n) ⊎ (v ≢ n) → (v < n → sum_below n (one_at v) ≡ 1) → sum_below (suc n) (one_at v) ≡ 1
    by_case (inl same) rest =
        let hit : eqb v n ≡ true = grind (arith, nat_tests) in
        let last : one_at v n ≡ 1 = ap (λ b. cond b 1 0) hit in
        let none = one_past n v (omega (arith, same)) in
        omega (arith, last, none)
    by_case (inr other) rest =
        let miss : eqb v n ≡ false = grind (arith, nat_tests) in
        let last : one_at v n ≡ 0 = ap (λ b. cond b 1 0) miss in
        let one = rest (omega (arith, below, other)) in
        omega (arith, last, one)

module _ {X : Type 0} (key : X → Option ℕ) where
  abbrev has_key : ℕ → X → Bool
  has_key u x = option_map_or (λ v. eqb v u) (key x) false

  -- items with keys below a number, by their keys
  counted_by_key : (n : ℕ) (xs : List X) → ((k : ℕ) (x : X) (u : ℕ) → slice_get xs k ≡ Some x → key x ≡ Some u → u < n) → count_by (λ x. is_some (key x)) xs ≡ sum_below n (λ u. count_by (has_key u) xs)
  counted_by_key n [] below = sym (below_zero n (λ u. 0) (λ u. refl))
  counted_by_key n (x ∷ xs) below =
      let rest = counted_by_key n xs (λ k y u at is. below (suc k) y u at is) in
      let front = count_front (λ y. is_some (key y)) x xs (is_some (key x)) refl in
      let sums = below_add n (λ u. count_by (has_key u) (x ∷ xs)) (λ u. cond (has_key u x) 1 0) (λ u. count_by (has_key u) xs) (λ u. count_front (has_key u) x xs (has_key u x) refl) in
      let one = by_key (key x) refl in
      omega (arith, rest, front, sums, one)
    where
      by_key : (o : Option ℕ) → key x ≡ o → sum_below n (λ u. cond (option_map_or (λ v. eqb v u) o false) 1 0) ≡ cond (is_some o) 1 0
      by_key None is = below_zero n (λ u. 0) (λ u. refl)
      by_key (Some v) is = one_below n v (below 0 x v refl is)

  -- different keys below a number, of which one is missing, are fewer
  pub fewer_keys : (n t : ℕ) (xs : List X) → ((k : ℕ) (x : X) (u : ℕ) → slice_get xs k ≡ Some x → key x ≡ Some u → u < n) → ((j k : ℕ) (x y : X) (u : ℕ) → slice_get xs j ≡ Some x → slice_get xs k ≡ Some y → key x ≡ Some u → key y ≡ Some u → j ≡ k) →
      t < n → ((k : ℕ) (x : X) → slice_get xs k ≡ Some x → key x ≡ Some t → ⊥) → count_by (λ x. is_some (key x)) xs < n
  fewer_keys n t xs below only t_below missing =
      let all = counted_by_key n xs below in
      let less = below_less n t (λ u. count_by (has_key u) xs)
      (λ u. at_most_one (has_key u) xs (λ j k x y at_j at_k is_x is_y. only j k x y u at_j at_k (key_of_test u (key x) is_x) (key_of_test u (key y) is_y)))
      t_below (none_pass (has_key t) xs (λ k x at. not_true (has_key t x) (λ is. missing k x at (key_of_test t (key x) is)))) in
      omega (arith, all, less)
    where
      key_of_test : (u : ℕ) (o : Option ℕ) → option_map_or (λ v. eqb v u) o false ≡ true → o ≡ Some u
      key_of_test u None is = absurd (cc)
      key_of_test u (Some v) is = let same : v ≡ u = grind (arith, nat_tests) in ap Some same

-- a rule of each item after those before it, by the item's index
module _ {X : Type 0} (Rule : List X → X → Type 0) where
  each_after_these : (before xs : List X) → ((k : ℕ) (x : X) → slice_get xs k ≡ Some x → Rule (before ++ take k xs) x) → EachAfterThese Rule before xs
  each_after_these before [] each = tt
  each_after_these before (x ∷ xs) each = (
    subst (λ b. Rule b x) (append-nil before) (each 0 x refl),
    each_after_these (before ++ x ∷ []) xs (λ k y at. subst (λ b. Rule b y) (sym (append_assoc before (x ∷ []) (take k xs))) (each (suc k) y at)),
  )

  pub each_after : (xs : List X) → ((k : ℕ) (x : X) → slice_get xs k ≡ Some x → Rule (take k xs) x) → EachAfter Rule xs
  each_after xs each = each_after_these [] xs each

  rule_after_these : (before xs : List X) → EachAfterThese Rule before xs → (k : ℕ) (x : X) → slice_get xs k ≡ Some x → Rule (before ++ take k xs) x
  rule_after_these before [] h k x at = absurd (cc)
  rule_after_these before (y ∷ ys) h zero x at = subst (λ z. Rule (before ++ []) z) (some_same at) (subst (λ b. Rule b y) (sym (append-nil before)) h.0)
  rule_after_these before (y ∷ ys) h (suc k) x at = subst (λ b. Rule b x) (append_assoc before (y ∷ []) (take k ys)) (rule_after_these (before ++ y ∷ []) ys h.1 k x at)

  pub rule_at : (xs : List X) → EachAfter Rule xs → (k : ℕ) (x : X) → slice_get xs k ≡ Some x → Rule (take k xs) x
  rule_at xs h k x at = rule_after_these [] xs h k x at

module _ {X : Type 0} where
  pub front_count : (xs : List X) (k : ℕ) → k ≤ length xs → length (take k xs) ≡ k
  front_count [] zero le = refl
  front_count [] (suc k) le = absurd (omega arith)
  front_count (z ∷ zs) zero le = refl
  front_count (z ∷ zs) (suc k) le = ap suc (front_count zs k (omega arith))

  pub in_copies : (n k : ℕ) (x y : X) → slice_get (replicate n x) k ≡ Some y → y ≡ x
  in_copies zero k x y at = absurd (cc)
  in_copies (suc n) zero x y at = sym (some_same at)
  in_copies (suc n) (suc k) x y at = in_copies n k x y at

  pub copy_at : (n k : ℕ) (x : X) → k < n → slice_get (replicate n x) k ≡ Some x
  copy_at zero k x below = absurd (omega arith)
  copy_at (suc n) zero x below = refl
  copy_at (suc n) (suc k) x below = copy_at n k x (omega arith)

  pub some_out : (o : Option X) (P : X → Type 0) → IsSomeAnd o P → (x : X) × (o ≡ Some x) × P x
  some_out None P h = absurd h
  some_out (Some x) P h = (x, refl, h)

  pub some_in : (o : Option X) (P : X → Type 0) (x : X) → o ≡ Some x → P x → IsSomeAnd o P
  some_in o P x is h = subst (λ q. IsSomeAnd q P) (sym is) h

-- items of two lists side by side
module _ {X Y : Type 0} (R : X → Y → Type 0) where
  pub zip_empty : (xs : List X) → AllZip R xs [] → xs ≡ []
  zip_empty [] h = refl
  zip_empty (x ∷ xs) h = absurd h

  pub zip_all : (Q : Y → Type 0) (P : X → Type 0) (xs : List X) (ys : List Y) → ((x : X) (y : Y) → R x y → Q y → P x) → AllZip R xs ys → AllByRecursion Q ys → AllByRecursion P xs
  zip_all Q P [] [] step h all = tt
  zip_all Q P [] (y ∷ ys) step h all = absurd h
  zip_all Q P (x ∷ xs) [] step h all = absurd h
  zip_all Q P (x ∷ xs) (y ∷ ys) step h all = (step x y h.0 all.0, zip_all Q P xs ys step h.1 all.1)

  pub zip_mapped : {Z : Type 0} (Q : Y → Type 0) (g : Y → Z) (S : X → Z → Type 0) (xs : List X) (ys : List Y) → ((x : X) (y : Y) → R x y → Q y → S x (g y)) → AllZip R xs ys → AllByRecursion Q ys → AllZip S xs (map g ys)
  zip_mapped Q g S [] [] step h all = tt
  zip_mapped Q g S [] (y ∷ ys) step h all = absurd h
  zip_mapped Q g S (x ∷ xs) [] step h all = absurd h
  zip_mapped Q g S (x ∷ xs) (y ∷ ys) step h all = (step x y h.0 all.0, zip_mapped Q g S xs ys step h.1 all.1)

  pub empty_zip : (ys : List Y) → AllZip R [] ys → ys ≡ []
  empty_zip [] h = refl
  empty_zip (y ∷ ys) h = absurd h

  pub zip_filled : (xs : List X) (y : Y) (ys : List Y) → AllZip R xs (y ∷ ys) → xs ≢ []
  zip_filled [] y ys h is = absurd h
  zip_filled (x ∷ xs) y ys h is = absurd (cc)

-- a fact of each number
pub all_of : {X : Type 0} (P : X → Type 0) (xs : List X) → ((x : X) → P x) → AllByRecursion P xs
all_of P [] each = tt
all_of P (x ∷ xs) each = (each x, all_of P xs each)

pub all_below : (P : ℕ → Type 0) (a n : ℕ) → ((k : ℕ) → k < a + n → P k) → AllByRecursion P (range_with_len a n)
all_below P a zero each = tt
all_below P a (suc n) each = (each a (omega arith), all_below P (a + 1) n (λ k less. each k (omega arith)))

-- the least of ones
fold_ones : (f : ℕ → ℕ) (es : List ℕ) → AllByRecursion (λ e. f e ≡ 1) es → fold min 1 (map f es) ≡ 1
fold_ones f [] h = refl
fold_ones f (e ∷ es) h = ap (λ m. fold min (min 1 m) (map f es)) h.0 ∙ fold_ones f es h.1

pub least_ones : (f : ℕ → ℕ) (es : List ℕ) → es ≢ [] → AllByRecursion (λ e. f e ≡ 1) es → least (map f es) ≡ 1
least_ones f [] filled h = absurd (filled refl)
least_ones f (e ∷ es) filled h = ap (λ m. fold min m (map f es)) h.0 ∙ fold_ones f es h.1

pub get_below : {X : Type 0} (xs : List X) (k : ℕ) → k < length xs → (x : X) × (slice_get xs k ≡ Some x)
get_below [] k below = absurd (omega arith)
get_below (x ∷ xs) zero below = (x, refl)
get_below (x ∷ xs) (suc k) below = get_below xs k (omega arith)

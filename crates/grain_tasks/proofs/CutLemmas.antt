-- Chunks that have each index once, in the order of their places, lie one behind the other.
use Rattle.std.proofs.Common.{◌≡◌, ℕ, suc, ◌+◌, ◌-◌, ◌<◌, ◌≤◌, Bool, true, false, cond, List, [], ◌∷◌, length, map, refl, sym, ap, ◌∙◌, arith}
use Rattle.std.specs.Prelude.{◌&&◌, count_by, nat_le, nat_lt, slice_index_or}
use Rattle.std.specs.List.{AllByRecursion}
use Rattle.std.specs.List.Sorted.{IsNonDecreasingBy, IsPermutation}
use Rattle.std.proofs.lemmas.Bool.{false≢true}
use Rattle.std.proofs.lemmas.Bool.Decides.{nat_tests}
use Rattle.std.proofs.lemmas.List.Sums.{sum_by-cons}
use Rattle.std.proofs.lemmas.List.Sorted.{sum_by-IsPermutation}
use Rattle.grain_tasks.specs.declared.chunk.Chunk.{Chunk}
use Rattle.grain_tasks.specs.Chunks.{AreConsecutive, HaveEachOnce, has_index}

abbrev one : Bool → ℕ
one b = cond b 1 0

-- none is empty
abbrev pub NoneEmpty : List Chunk → Type 0
NoneEmpty chunks = AllByRecursion (λ (c : Chunk). c.from < c.to) chunks

-- each begins where the ones before it begin, or later
abbrev pub AreOrdered : List Chunk → Type 0
AreOrdered [] = Unit {0}
AreOrdered (c ∷ cs) = AllByRecursion (λ (d : Chunk). c.from ≤ d.from) cs × AreOrdered cs

-- each index from one up to another is in one, and no other is in any
abbrev pub HaveEach : ℕ → ℕ → List Chunk → Type 0
HaveEach a b chunks = (i : ℕ) → count_by (has_index i) chunks ≡ one (nat_le a i && nat_lt i b)

module _ (i a b : ℕ) where
  pub in_true : a ≤ i → i < b → (nat_le a i && nat_lt i b) ≡ true
  in_true low high =
      let p : nat_le a i ≡ true = grind (arith, nat_tests) in
      let q : nat_lt i b ≡ true = grind (arith, nat_tests) in
      ap (λ x. x && nat_lt i b) p ∙ q

  pub out_low : i < a → (nat_le a i && nat_lt i b) ≡ false
  out_low low = let p : nat_le a i ≡ false = grind (arith, nat_tests) in ap (λ x. x && nat_lt i b) p

  pub out_high : b ≤ i → (nat_le a i && nat_lt i b) ≡ false
  out_high high = by_test (nat_le a i) (grind (arith, nat_tests))
    where
      by_test : (x : Bool) → nat_lt i b ≡ false → (x && nat_lt i b) ≡ false
      by_test true q = q
      by_test false q = refl

  pub in_low : (nat_le a i && nat_lt i b) ≡ true → a ≤ i
  in_low is = by_test (nat_le a i) refl is
    where
      by_test : (x : Bool) → nat_le a i ≡ x → (x && nat_lt i b) ≡ true → a ≤ i
      by_test true p is = grind (arith, nat_tests)
      by_test false p is = absurd (false≢true is)

  pub in_high : (nat_le a i && nat_lt i b) ≡ true → i < b
  in_high is = by_test (nat_le a i) is
    where
      by_test : (x : Bool) → (x && nat_lt i b) ≡ true → i < b
      by_test true is = grind (arith, nat_tests)
      by_test false is = absurd (false≢true is)

count_cons : (i : ℕ) (c : Chunk) (cs : List Chunk) → count_by (has_index i) (c ∷ cs) ≡ one (has_index i c) + count_by (has_index i) cs
count_cons i c cs = sum_by-cons (λ y. one (has_index i y)) c cs

-- an index before all of them is in none
none_before : (i : ℕ) (cs : List Chunk) → AllByRecursion (λ (d : Chunk). i < d.from) cs → count_by (has_index i) cs ≡ 0
none_before i [] all = refl
none_before i (c ∷ cs) all =
    let out : one (has_index i c) ≡ 0 = ap one (out_low i c.from c.to all.0) in
    omega (arith, count_cons i c cs, out, none_before i cs all.1)

later : (i k : ℕ) (cs : List Chunk) → i < k → AllByRecursion (λ (d : Chunk). k ≤ d.from) cs → AllByRecursion (λ (d : Chunk). i < d.from) cs
later i k [] lt all = tt
later i k (c ∷ cs) lt all = let first = all.0 in (omega arith, later i k cs lt all.1)

one_bit : (b : Bool) → 1 ≤ one b → b ≡ true
one_bit true some = refl
one_bit false some = absurd (omega arith)

-- an index that is in the first is from a on and below b
first_low : (a b i : ℕ) (c : Chunk) (cs : List Chunk) → HaveEach a b (c ∷ cs) → c.from ≤ i → i < c.to → (nat_le a i && nat_lt i b) ≡ true
first_low a b i c cs have low high =
    let mine : one (has_index i c) ≡ 1 = ap one (in_true i c.from c.to low high) in
    one_bit (nat_le a i && nat_lt i b) (omega (arith, have i, count_cons i c cs, mine))

begins_at : (a b : ℕ) (c : Chunk) (cs : List Chunk) → HaveEach a b (c ∷ cs) → c.from < c.to → AllByRecursion (λ (d : Chunk). c.from ≤ d.from) cs → c.from ≡ a
begins_at a b c cs have some ordered = by_test (nat_lt a c.from) refl
  where
    low : a ≤ c.from
    low = in_low c.from a b (first_low a b c.from c cs have (omega arith) some)

    below : c.from < b
    below = in_high c.from a b (first_low a b c.from c cs have (omega arith) some)

    by_test : (x : Bool) → nat_lt a c.from ≡ x → c.from ≡ a
    by_test true is =
        let lt : a < c.from = grind (arith, nat_tests) in
        let out : one (has_index a c) ≡ 0 = ap one (out_low a c.from c.to lt) in
        let others : count_by (has_index a) cs ≡ 0 = none_before a cs (later a c.from cs lt ordered) in
        let mine : one (nat_le a a && nat_lt a b) ≡ 1 = ap one (in_true a a b (omega arith) (omega (arith, lt, below))) in
        absurd (omega (arith, have a, count_cons a c cs, out, others, mine))
    by_test false is = let le : c.from ≤ a = grind (arith, nat_tests) in omega (arith, le, low)

ends_within : (a b : ℕ) (c : Chunk) (cs : List Chunk) → HaveEach a b (c ∷ cs) → c.from < c.to → c.to ≤ b
ends_within a b c cs have some =
    let last = in_high (c.to - 1) a b (first_low a b (c.to - 1) c cs have (omega (arith, some)) (omega (arith, some))) in
    omega (arith, last, some)

-- the others have what is behind the first
rest_have : (a b : ℕ) (c : Chunk) (cs : List Chunk) → HaveEach a b (c ∷ cs) → c.from < c.to → c.from ≡ a → c.to ≤ b → HaveEach c.to b cs
rest_have a b c cs have some from to i = by_tests (nat_lt i a) (nat_lt i c.to) (nat_lt i b) refl refl refl
  where
    split : one (nat_le a i && nat_lt i b) ≡ one (has_index i c) + count_by (has_index i) cs
    split = sym (have i) ∙ count_cons i c cs

    by_tests : (x y z : Bool) → nat_lt i a ≡ x → nat_lt i c.to ≡ y → nat_lt i b ≡ z → count_by (has_index i) cs ≡ one (nat_le c.to i && nat_lt i b)
    by_tests true y z p q r =
        let lt : i < a = grind (arith, nat_tests) in
        let all : one (nat_le a i && nat_lt i b) ≡ 0 = ap one (out_low i a b lt) in
        let goal : one (nat_le c.to i && nat_lt i b) ≡ 0 = ap one (out_low i c.to b (omega (arith, lt, some, from))) in
        omega (arith, split, all, goal)
    by_tests false true z p q r =
        let lt : i < c.to = grind (arith, nat_tests) in
        let le : a ≤ i = grind (arith, nat_tests) in
        let all : one (nat_le a i && nat_lt i b) ≡ 1 = ap one (in_true i a b le (omega (arith, lt, to))) in
        let mine : one (has_index i c) ≡ 1 = ap one (in_true i c.from c.to (omega (arith, le, from)) lt) in
        let goal : one (nat_le c.to i && nat_lt i b) ≡ 0 = ap one (out_low i c.to b lt) in
        omega (arith, split, all, mine, goal)
    by_tests false false true p q r =
        let le : c.to ≤ i = grind (arith, nat_tests) in
        let lt : i < b = grind (arith, nat_tests) in
        let all : one (nat_le a i && nat_lt i b) ≡ 1 = ap one (in_true i a b (omega (arith, le, some, from)) lt) in
        let mine : one (has_index i c) ≡ 0 = ap one (out_high i c.from c.to le) in
        let goal : one (nat_le c.to i && nat_lt i b) ≡ 1 = ap one (in_true i c.to b le lt) in
        omega (arith, split, all, mine, goal)
    by_tests false false false p q r =
        let le : b ≤ i = grind (arith, nat_tests) in
        let all : one (nat_le a i && nat_lt i b) ≡ 0 = ap one (out_high i a b le) in
        let goal : one (nat_le c.to i && nat_lt i b) ≡ 0 = ap one (out_high i c.to b le) in
        omega (arith, split, all, goal)

pub consecutive_if_each : (a b : ℕ) (cs : List Chunk) → a ≤ b → NoneEmpty cs → AreOrdered cs → HaveEach a b cs → AreConsecutive a b cs
consecutive_if_each a b [] le some ordered have = by_test (nat_lt a b) refl
  where
    by_test : (x : Bool) → nat_lt a b ≡ x → a ≡ b
    by_test true is =
        let lt : a < b = grind (arith, nat_tests) in
        let mine : one (nat_le a a && nat_lt a b) ≡ 1 = ap one (in_true a a b (omega arith) lt) in
        let empty : count_by (has_index a) [] ≡ 0 = refl in
        absurd (omega (arith, have a, mine, empty))
    by_test false is = let ge : b ≤ a = grind (arith, nat_tests) in omega (arith, ge, le)
consecutive_if_each a b (c ∷ cs) le some ordered have =
    let from = begins_at a b c cs have some.0 ordered.0 in
    let to = ends_within a b c cs have some.0 in
    (from, omega (arith, some.0, from), consecutive_if_each c.to b cs to some.1 ordered.1 (rest_have a b c cs have some.0 from to))

pub each_once : (count : ℕ) (cs : List Chunk) → HaveEachOnce count cs → HaveEach 0 count cs
each_once count cs have i = have i ∙ (let low : nat_le 0 i ≡ true = grind (arith, nat_tests) in ap (λ b. one (b && nat_lt i count)) (sym low))

pub each_once_moved : (count : ℕ) (xs ys : List Chunk) → IsPermutation xs ys → HaveEachOnce count xs → HaveEachOnce count ys
each_once_moved count xs ys moved have i = sum_by-IsPermutation (λ c. one (has_index i c)) xs ys moved ∙ have i

-- what rises by its chunks' beginnings has them in order
module _ {X : Type 0} (chunk : X → Chunk) where
  abbrev pub from_of : X → ℕ
  from_of x = (chunk x).from

  all_above : (k : ℕ) (xs : List X) → ((j : ℕ) (d : X) → j < length xs → k ≤ from_of (slice_index_or xs j d)) → AllByRecursion (λ (d : Chunk). k ≤ d.from) (map chunk xs)
  all_above k [] each = tt
  all_above k (x ∷ xs) each = (each 0 x (omega arith), all_above k xs (λ j d below. each (suc j) d (omega arith)))

  pub rising_ordered : (xs : List X) → IsNonDecreasingBy from_of xs → AreOrdered (map chunk xs)
  rising_ordered [] rises = tt
  rising_ordered (x ∷ xs) rises = (
    all_above (from_of x) xs (λ j d below. rises 0 (suc j) d (omega arith) (omega arith)),
    rising_ordered xs (λ i j d le below. rises (suc i) (suc j) d (omega arith) (omega arith)),
  )

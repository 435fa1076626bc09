-- The inputs of a start, and the items that a filter keeps.
use Rattle.std.proofs.Common.{◌≡◌, ℕ, zero, suc, ◌<◌, ◌≤◌, Bool, true, false, ◌||◌, cond, List, [], ◌∷◌, length, Some, sym, refl, ap, ◌∙◌, arith}
use Rattle.std.specs.Prelude.{slice_get, filter}
use Rattle.std.specs.List.{list_any, AllByRecursion, AllZip}
use Rattle.std.proofs.lemmas.Bool.{false≢true}
use Rattle.join_words.specs.Ins.{InputValue}
use Rattle.text_tasks.specs.Cells.{input_where}

-- the input at the first edge that passes, with what is known of that edge and of both
pub record InputAt {V : Type 0} (test : ℕ → Bool) (P : ℕ → Type 0) (R : ℕ → InputValue V → Type 0) (input : InputValue V) : Type 0 where
  pub edge : ℕ
  pub passes : test edge ≡ true
  pub is : P edge
  pub found : R edge input

pub input_at : {V : Type 0} (test : ℕ → Bool) (P : ℕ → Type 0) (R : ℕ → InputValue V → Type 0) (edges : List ℕ) (found : List (InputValue V)) → AllByRecursion P edges → AllZip R edges found → list_any test edges ≡ true → InputAt test P R (input_where test edges found)
input_at test P R [] found each zip has = absurd (false≢true has)
input_at test P R (e ∷ edges) [] each zip has = absurd zip
input_at {V} test P R (e ∷ edges) (input ∷ found) each zip has = by_test (test e) refl has (input_at test P R edges found each.1 zip.1)
  where
    by_test : (b : Bool) → test e ≡ b → b || list_any test edges ≡ true → (list_any test edges ≡ true → InputAt test P R (input_where test edges found)) → InputAt test P R (cond b input (input_where test edges found))
    by_test true passes h more = record { edge = e; passes = passes; is = each.0; found = zip.0 }
    by_test false fails h more = more h

-- an item that a filter keeps
record KeptItem {X : Type 0} (test : X → Bool) (xs : List X) (x : X) : Type 0 where
  place : ℕ
  at : slice_get xs place ≡ Some x
  passes : test x ≡ true

kept_item : {X : Type 0} (test : X → Bool) (xs : List X) (k : ℕ) (x : X) → slice_get (filter test xs) k ≡ Some x → KeptItem test xs x
kept_item test [] k x at = absurd (cc)
kept_item {X} test (y ∷ ys) k x at = by_test (test y) refl k at (λ n. kept_item test ys n x)
  where
    by_test : (b : Bool) → test y ≡ b → (n : ℕ) → slice_get (cond b (y ∷ filter test ys) (filter test ys)) n ≡ Some x → ((m : ℕ) → slice_get (filter test ys) m ≡ Some x → KeptItem test ys x) → KeptItem test (y ∷ ys) x
    by_test true is zero here more = let same : y ≡ x = cc in record { place = 0; at = here; passes = ap test (sym same) ∙ is }
    by_test true is (suc n) there more = let later : KeptItem test ys x = more n there in record { place = suc later.place; at = later.at; passes = later.passes }
    by_test false is n there more = let later : KeptItem test ys x = more n there in record { place = suc later.place; at = later.at; passes = later.passes }

-- Where each item before one that passes passes, the items that are kept keep their places.
pub filter_front : {X : Type 0} (test : X → Bool) (xs : List X) → ((i j : ℕ) (x y : X) → i < j → slice_get xs i ≡ Some x → slice_get xs j ≡ Some y → test y ≡ true → test x ≡ true)
    → (k : ℕ) (x : X) → slice_get (filter test xs) k ≡ Some x → (slice_get xs k ≡ Some x) × (test x ≡ true)
filter_front test [] front k x at = absurd (cc)
filter_front {X} test (y ∷ ys) front k x at = by_test (test y) refl k at (λ n. filter_front test ys (λ i j u w less at_u at_w passes. front (suc i) (suc j) u w (omega (arith, less)) at_u at_w passes) n x)
  where
    by_test : (b : Bool) → test y ≡ b → (n : ℕ) → slice_get (cond b (y ∷ filter test ys) (filter test ys)) n ≡ Some x → ((m : ℕ) → slice_get (filter test ys) m ≡ Some x → (slice_get ys m ≡ Some x) × (test x ≡ true)) → (slice_get (y ∷ ys) n ≡ Some x) × (test x ≡ true)
    by_test true is zero here more = let same : y ≡ x = cc in (here, ap test (sym same) ∙ is)
    by_test true is (suc n) there more = more n there
    by_test false is n there more =
        let later : KeptItem test ys x = kept_item test ys n x there in
        absurd (false≢true (sym is ∙ front 0 (suc later.place) y x (omega arith) refl later.at later.passes))

-- so many items are kept where the first ones pass
pub filter_long : {X : Type 0} (test : X → Bool) (xs : List X) (m : ℕ) → m ≤ length xs → ((j : ℕ) (x : X) → j < m → slice_get xs j ≡ Some x → test x ≡ true) → m ≤ length (filter test xs)
filter_long test xs zero few each = omega arith
filter_long test [] (suc m) few each = absurd (omega (arith, few))
filter_long test (x ∷ xs) (suc m) few each =
    let rest : m ≤ length (filter test xs) = filter_long test xs m (omega (arith, few)) (λ j y less at. each (suc j) y (omega (arith, less)) at) in
    let here : test x ≡ true = each 0 x (omega arith) refl in
    let whole : length (filter test (x ∷ xs)) ≡ suc (length (filter test xs)) = ap (λ b. length (cond b (x ∷ filter test xs) (filter test xs))) here in
    omega (arith, rest, whole)

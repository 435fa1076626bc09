-- The edges of a task, and nets of plain tasks.
use Rattle.std.proofs.Common.{◌≡◌, ◌≢◌, ◌⊎◌, inl, inr, ℕ, zero, suc, ◌+◌, ◌<◌, ◌≤◌, Bool, true, false, cond, eqb, List, [], ◌∷◌, length, Option, Some, None, refl, ap, ◌∙◌, subst, arith, map}
use Rattle.std.specs.Prelude.{count_by, slice_get, ◌==◌, All}
use Rattle.std.specs.Option.{option_map_or}
use Rattle.std.specs.List.{list_any, AllByRecursion}
use Rattle.std.proofs.lemmas.Bool.Decides.{nat_tests}
use Rattle.std.proofs.lemmas.Bool.{cases_eq}
use Rattle.std.proofs.lemmas.List.Sums.{sum_by-cons}
use Rattle.std.proofs.lemmas.List.Elements.{All-from_recursion}
use Rattle.std.proofs.lemmas.Option.{slice_get_within, get_or_from_slice_get}
use Rattle.task_graph.specs.NetRows.{NetRows}
use Rattle.task_graph.specs.Places.{places, places_from}
use Rattle.task_graph.specs.Net.{is_weak, is_weak_row, task_chooses, chooses, IsPlainNet, IsPlainTask}
use Rattle.task_graph.specs.declared.net.TaskRow.{TaskRow}
use Rattle.task_graph.specs.declared.net.EdgeRow.{EdgeRow}
use Rattle.journal_rules.specs.Counts.{first_tokens}
use Rattle.journal_rules.specs.SemaphoreRule.{takes, puts}

-- the item at a place that is there has what each has
pub at_place : {X : Type 0} (P : X → Type 0) (xs : List X) (i : ℕ) (x : X) → All P xs → slice_get xs i ≡ Some x → P x
at_place P xs i x all is = subst P (get_or_from_slice_get xs i x x is) (all i x (slice_get_within xs i x is))

-- places are those of items
places_from_below : {X : Type 0} (p : X → Bool) (n : ℕ) (xs : List X) → AllByRecursion (λ k. k < n + length xs) (places_from p n xs)
places_from_below p n [] = tt
places_from_below p n (x ∷ xs) = by_test (p x) (subst (λ m. AllByRecursion (λ k. k < m) (places_from p (suc n) xs)) (omega arith) (places_from_below p (suc n) xs))
  where
    by_test : (b : Bool) → AllByRecursion (λ k. k < n + length (x ∷ xs)) (places_from p (suc n) xs) → AllByRecursion (λ k. k < n + length (x ∷ xs)) (cond b (n ∷ places_from p (suc n) xs) (places_from p (suc n) xs))
    by_test true rest = (omega arith, rest)
    by_test false rest = rest

pub places_below : {X : Type 0} (p : X → Bool) (xs : List X) → All (λ k. k < length xs) (places p xs)
places_below p xs = All-from_recursion (λ k. k < length xs) (places p xs) (subst (λ m. AllByRecursion (λ k. k < m) (places p xs)) (omega arith) (places_from_below p 0 xs))

-- no place before the first
none_before : {X : Type 0} (p : X → Bool) (n e : ℕ) (xs : List X) → e < n → list_any (λ g. g == e) (places_from p n xs) ≡ false
none_before p n e [] h = refl
none_before p n e (x ∷ xs) h = by_test (p x) (none_before p (suc n) e xs (omega arith))
  where
    by_test : (b : Bool) → list_any (λ g. g == e) (places_from p (suc n) xs) ≡ false → list_any (λ g. g == e) (cond b (n ∷ places_from p (suc n) xs) (places_from p (suc n) xs)) ≡ false
    by_test true rest = let miss : eqb n e ≡ false = grind (arith, nat_tests) in rw miss rest
    by_test false rest = rest

-- a place is among those that pass where its item passes
any_place_from : {X : Type 0} (p : X → Bool) (n e : ℕ) (xs : List X) → list_any (λ g. g == n + e) (places_from p n xs) ≡ option_map_or p (slice_get xs e) false
any_place_from p n e [] = refl
any_place_from p n zero (x ∷ xs) = by_test (p x) refl
  where
    by_test : (b : Bool) → p x ≡ b → list_any (λ g. g == n + 0) (cond b (n ∷ places_from p (suc n) xs) (places_from p (suc n) xs)) ≡ b
    by_test true is = let hit : eqb n (n + 0) ≡ true = grind (arith, nat_tests) in rw hit refl
    by_test false is = none_before p (suc n) (n + 0) xs (omega arith)
any_place_from p n (suc e) (x ∷ xs) = by_test (p x) (subst (λ m. list_any (λ g. g == m) (places_from p (suc n) xs) ≡ option_map_or p (slice_get xs e) false) (omega arith) (any_place_from p (suc n) e xs))
  where
    by_test : (b : Bool) → list_any (λ g. g == n + suc e) (places_from p (suc n) xs) ≡ option_map_or p (slice_get xs e) false → list_any (λ g. g == n + suc e) (cond b (n ∷ places_from p (suc n) xs) (places_from p (suc n) xs)) ≡ option_map_or p (slice_get xs e) false
    by_test true rest = let miss : eqb n (n + suc e) ≡ false = grind (arith, nat_tests) in rw miss rest
    by_test false rest = rest

pub any_place : {X : Type 0} (p : X → Bool) (e : ℕ) (xs : List X) → list_any (λ g. g == e) (places p xs) ≡ option_map_or p (slice_get xs e) false
any_place p e xs = subst (λ m. list_any (λ g. g == m) (places p xs) ≡ option_map_or p (slice_get xs e) false) (omega arith) (any_place_from p 0 e xs)

abbrev one_if : Bool → ℕ
one_if b = cond b 1 0

-- a count of one item more, at the front
count_cons : {X : Type 0} (p : X → Bool) (x : X) (xs : List X) (b : Bool) → p x ≡ b → count_by p (x ∷ xs) ≡ one_if b + count_by p xs
count_cons p x xs b is = sum_by-cons (λ y. one_if (p y)) x xs ∙ ap (λ (t : Bool). one_if t + count_by p xs) is

-- no place stands twice
none_counted : {X : Type 0} (p : X → Bool) (n e : ℕ) (xs : List X) → e < n → count_by (λ g. g == e) (places_from p n xs) ≡ 0
none_counted p n e [] h = refl
none_counted p n e (x ∷ xs) h = by_test (p x) (none_counted p (suc n) e xs (omega arith))
  where
    by_test : (b : Bool) → count_by (λ g. g == e) (places_from p (suc n) xs) ≡ 0 → count_by (λ g. g == e) (cond b (n ∷ places_from p (suc n) xs) (places_from p (suc n) xs)) ≡ 0
    by_test true rest =
        let miss : eqb n e ≡ false = grind (arith, nat_tests) in
        count_cons (λ g. g == e) n (places_from p (suc n) xs) false miss ∙ omega arith
    by_test false rest = rest

counted_once_from : {X : Type 0} (p : X → Bool) (n e : ℕ) (xs : List X) → count_by (λ g. g == e) (places_from p n xs) ≤ 1
counted_once_from p n e [] = omega arith
counted_once_from p n e (x ∷ xs) = by_test (p x) (cases_eq n e) (counted_once_from p (suc n) e xs)
  where
    by_test : (b : Bool) → (n ≡ e) ⊎ (n ≢ e) → count_by (λ g. g == e) (places_from p (suc n) xs) ≤ 1 → count_by (λ g. g == e) (cond b (n ∷ places_from p (suc n) xs) (places_from p (suc n) xs)) ≤ 1
    by_test true (inl same) rest =
        let none = none_counted p (suc n) e xs (omega arith) in
        let hit : eqb n e ≡ true = grind (arith, nat_tests) in
        let split : count_by (λ g. g == e) (n ∷ places_from p (suc n) xs) ≡ 1 + count_by (λ g. g == e) (places_from p (suc n) xs) = count_cons (λ g. g == e) n (places_from p (suc n) xs) true hit in
        let all : count_by (λ g. g == e) (n ∷ places_from p (suc n) xs) ≤ 1 = omega arith in
        all
    by_test true (inr other) rest =
        let miss : eqb n e ≡ false = grind (arith, nat_tests) in
        let split : count_by (λ g. g == e) (n ∷ places_from p (suc n) xs) ≡ 0 + count_by (λ g. g == e) (places_from p (suc n) xs) = count_cons (λ g. g == e) n (places_from p (suc n) xs) false miss in
        let all : count_by (λ g. g == e) (n ∷ places_from p (suc n) xs) ≤ 1 = omega arith in
        all
    by_test false any rest = rest

pub counted_once : {X : Type 0} (p : X → Bool) (xs : List X) → (e : ℕ) → count_by (λ g. g == e) (places p xs) ≤ 1
counted_once p xs e = counted_once_from p 0 e xs

-- no more places than items
places_from_length : {X : Type 0} (p : X → Bool) (n : ℕ) (xs : List X) → length (places_from p n xs) ≤ length xs
places_from_length p n [] = omega arith
places_from_length p n (x ∷ xs) = by_test (p x) (places_from_length p (suc n) xs)
  where
    by_test : (b : Bool) → length (places_from p (suc n) xs) ≤ length xs → length (cond b (n ∷ places_from p (suc n) xs) (places_from p (suc n) xs)) ≤ length (x ∷ xs)
    by_test true rest = omega arith
    by_test false rest = omega arith

pub places_length : {X : Type 0} (p : X → Bool) (xs : List X) → length (places p xs) ≤ length xs
places_length p xs = places_from_length p 0 xs

-- a plain task doesn't choose
plain_task_keeps : (net : NetRows) → IsPlainNet net → (t : ℕ) → task_chooses net t ≡ false
plain_task_keeps net plain t = by_row (slice_get net.tasks t) refl
  where
    by_row : (row : Option TaskRow) → slice_get net.tasks t ≡ row → option_map_or (λ r. chooses r.shape) row false ≡ false
    by_row None is = refl
    by_row (Some row) is = ap chooses (at_place IsPlainTask net.tasks t row plain.tasks is).shape

-- each edge of a net of plain tasks is strong
pub plain_strong : (net : NetRows) → IsPlainNet net → (e : ℕ) → is_weak net e ≡ false
plain_strong net plain e = by_row (slice_get net.edges e)
  where
    by_row : (row : Option EdgeRow) → option_map_or (is_weak_row net) row false ≡ false
    by_row None = refl
    by_row (Some row) = plain_task_keeps net plain row.from

-- and none begins with a token
pub plain_first_tokens : (net : NetRows) → IsPlainNet net → (e : ℕ) → first_tokens net e ≡ 0
plain_first_tokens net plain e = by_row (slice_get net.edges e) refl
  where
    by_row : (row : Option EdgeRow) → slice_get net.edges e ≡ row → option_map_or (λ (r : EdgeRow). one_if r.start) row 0 ≡ 0
    by_row None is = refl
    by_row (Some row) is = ap one_if (at_place (λ (r : EdgeRow). r.start ≡ false) net.edges e row plain.edges is)

-- two functions that agree on a list's elements make the same list
pub map_agree : {X Y : Type 0} (f g : X → Y) (xs : List X) → AllByRecursion (λ x. f x ≡ g x) xs → map f xs ≡ map g xs
map_agree f g [] all = refl
map_agree f g (x ∷ xs) all = rw (all.0, map_agree f g xs all.1) refl

-- a plain task takes and puts no unit
pub plain_takes : (net : NetRows) → IsPlainNet net → (s t : ℕ) → takes net s t ≡ false
plain_takes net plain s t = by_row (slice_get net.tasks t) refl
  where
    by_row : (row : Option TaskRow) → slice_get net.tasks t ≡ row → option_map_or (λ (r : TaskRow). list_any (λ x. x == s) r.takes) row false ≡ false
    by_row None is = refl
    by_row (Some row) is = ap (λ ids. list_any (λ x. x == s) ids) (at_place IsPlainTask net.tasks t row plain.tasks is).takes

pub plain_puts : (net : NetRows) → IsPlainNet net → (s t : ℕ) → puts net s t ≡ false
plain_puts net plain s t = by_row (slice_get net.tasks t) refl
  where
    by_row : (row : Option TaskRow) → slice_get net.tasks t ≡ row → option_map_or (λ (r : TaskRow). list_any (λ x. x == s) r.puts) row false ≡ false
    by_row None is = refl
    by_row (Some row) is = ap (λ ids. list_any (λ x. x == s) ids) (at_place IsPlainTask net.tasks t row plain.tasks is).puts

-- Lists whose numbers differ, one number after the other; and the edges out of a task.
use Rattle.std.proofs.Common.{◌≡◌, ◌≢◌, ◌⊎◌, inl, inr, ℕ, ◌+◌, ◌<◌, ◌≤◌, Bool, true, false, not, ◌&&◌, ◌||◌, cond, eqb, List, [], ◌∷◌, ◌++◌, length, take, Some, sym, refl, ap, ◌∙◌, subst, arith, get_or, set, IsTrue, get_or-set_same, get_or-set_other, length-set}
use Rattle.std.specs.Prelude.{count_by, ◌==◌, slice_get}
use Rattle.std.specs.Option.{option_map_or}
use Rattle.std.specs.List.{list_any, AllByRecursion, IsDistinct}
use Rattle.std.proofs.lemmas.Bool.{cases_eq, false≢true, eqb-true, eq-eqb}
use Rattle.std.proofs.lemmas.Bool.Decides.{nat_tests}
use Rattle.std.proofs.lemmas.List.{take_more}
use Rattle.std.proofs.lemmas.List.Elements.{All-from_recursion}
use Rattle.std.proofs.lemmas.List.Sums.{sum_by-cons}
use Rattle.std.proofs.lemmas.List.Folds.{list_any-append}
use Rattle.task_graph.specs.NetRows.{NetRows}
use Rattle.task_graph.specs.Net.{out_edges}
use Rattle.task_graph.specs.declared.net.EdgeRow.{EdgeRow}
use Rattle.journal_rules.specs.ChoiceRule.{AreAmong}
use Rattle.legal_run.specs.inside.Marking.{AreClear, Marked}
use Rattle.journal_rules.proofs.NetLemmas.{any_place}

abbrev one_if : Bool → ℕ
one_if b = cond b 1 0

or_no : (b : Bool) → b || false ≡ b
or_no true = refl
or_no false = refl

eqb_flip : (a b : ℕ) → eqb a b ≡ eqb b a
eqb_flip a b = by_case (cases_eq a b)
  where
    by_case : (a ≡ b) ⊎ (a ≢ b) → eqb a b ≡ eqb b a
    by_case (inl same) = rw same refl
    by_case (inr other) =
        let one : eqb a b ≡ false = grind (arith, nat_tests) in
        let two : eqb b a ≡ false = grind (arith, nat_tests) in
        one ∙ sym two

-- one number more, which isn't among the others
differ_push : (x n : ℕ) (xs : List ℕ) → AllByRecursion (λ y. (x == y) ≡ false) xs → (x == n) ≡ false → AllByRecursion (λ y. (x == y) ≡ false) (xs ++ n ∷ [])
differ_push x n [] all last = (last, tt)
differ_push x n (y ∷ ys) all last = (all.0, differ_push x n ys all.1 last)

distinct_push : (n : ℕ) (xs : List ℕ) → IsDistinct ◌==◌ xs → list_any (λ y. y == n) xs ≡ false → IsDistinct ◌==◌ (xs ++ n ∷ [])
unfolding IsDistinct
distinct_push n [] distinct absent = (tt, tt)
distinct_push n (x ∷ xs) distinct absent = by_test (eqb x n) refl absent (λ h. distinct_push n xs distinct.1 h)
  where
    by_test : (b : Bool) → eqb x n ≡ b → b || list_any (λ y. y == n) xs ≡ false → (list_any (λ y. y == n) xs ≡ false → IsDistinct ◌==◌ (xs ++ n ∷ [])) → IsDistinct ◌==◌ (x ∷ (xs ++ n ∷ []))
    by_test true is h rest = absurd (false≢true (sym h))
    by_test false is h rest = (differ_push x n xs distinct.0 is, rest h)

-- and back
differ_pop : (x n : ℕ) (xs : List ℕ) → AllByRecursion (λ y. (x == y) ≡ false) (xs ++ n ∷ []) → AllByRecursion (λ y. (x == y) ≡ false) xs × ((x == n) ≡ false)
differ_pop x n [] all = (tt, all.0)
differ_pop x n (y ∷ ys) all = let rest = differ_pop x n ys all.1 in ((all.0, rest.0), rest.1)

distinct_pop : (n : ℕ) (xs : List ℕ) → IsDistinct ◌==◌ (xs ++ n ∷ []) → IsDistinct ◌==◌ xs × (list_any (λ y. y == n) xs ≡ false)
unfolding IsDistinct
distinct_pop n [] distinct = (tt, refl)
distinct_pop n (x ∷ xs) distinct =
    let first = differ_pop x n xs distinct.0 in
    let rest = distinct_pop n xs distinct.1 in
    ((first.0, rest.0), rw first.1 rest.1)

and_both : (a b : Bool) → a && not b ≡ true → (a ≡ true) × (b ≡ false)
and_both true false h = (refl, refl)
and_both true true h = absurd (false≢true h)
and_both false b h = absurd (false≢true h)

pub marked_none : (flags : List Bool) → AreClear flags → Marked flags flags true []
unfolding IsDistinct
marked_none flags clear = record { len = refl; each = λ k d below. clear k d below; differ = (λ holds. tt, λ all. refl) }

pub marked_more : (old now : List Bool) (distinct marked new : Bool) (numbers : List ℕ) (i n : ℕ) → i < length numbers → n ≡ get_or numbers i 0 → n < length old → Marked old now distinct (take i numbers) → marked ≡ get_or now n marked → new ≡ distinct && not marked
    → Marked old (set now n true) new (take (i + 1) numbers)
marked_more old now distinct marked new numbers i n within is in_range so_far marked_is new_is = record {
  len = length-set now n true ∙ so_far.len;
  each = λ k d below. by_place k d below (cases_eq n k);
  differ = (λ holds. let both = and_both distinct marked (sym new_is ∙ holds) in rw taken_is (distinct_push n (take i numbers) (so_far.differ.0 both.0) (sym was ∙ both.1)), λ all. let pair = distinct_pop n (take i numbers) (rw taken_is at all) in new_is ∙ rw (so_far.differ.1 pair.0, was ∙ pair.1) refl);
}
  where
    taken_is : take (i + 1) numbers ≡ take i numbers ++ n ∷ []
    taken_is = take_more numbers i 0 within ∙ ap (λ (x : ℕ). take i numbers ++ x ∷ []) (sym is)

    was : marked ≡ list_any (λ m. m == n) (take i numbers)
    was = marked_is ∙ so_far.each n marked in_range

    any_is : (k : ℕ) → list_any (λ r. r == k) (take (i + 1) numbers) ≡ list_any (λ r. r == k) (take i numbers) || eqb n k
    any_is k = ap (λ xs. list_any (λ r. r == k) xs) taken_is ∙ list_any-append (λ r. r == k) (take i numbers) (n ∷ []) ∙ ap (λ b. list_any (λ r. r == k) (take i numbers) || b) (or_no (eqb n k))

    or_yes : (b : Bool) → b || true ≡ true
    or_yes true = refl
    or_yes false = refl

    by_place : (k : ℕ) (d : Bool) → k < length old → (n ≡ k) ⊎ (n ≢ k) → get_or (set now n true) k d ≡ list_any (λ r. r == k) (take (i + 1) numbers)
    by_place k d below (inl same) =
        let hit : eqb n n ≡ true = grind (arith, nat_tests) in
        subst (λ j. get_or (set now n true) j d ≡ list_any (λ r. r == j) (take (i + 1) numbers)) same
        (get_or-set_same now n true d (omega (arith, so_far.len)) ∙ sym (any_is n ∙ ap (λ b. list_any (λ r. r == n) (take i numbers) || b) hit ∙ or_yes (list_any (λ r. r == n) (take i numbers))))
    by_place k d below (inr other) =
        let miss : eqb n k ≡ false = grind (arith, nat_tests) in
        get_or-set_other now n k true d (λ e. other (sym e)) ∙ so_far.each k d below
        ∙ sym (any_is k ∙ ap (λ b. list_any (λ r. r == k) (take i numbers) || b) miss ∙ or_no (list_any (λ r. r == k) (take i numbers)))

-- an edge is among those out of a task where its row says so
pub out_is : (net : NetRows) (t e : ℕ) (row : EdgeRow) → slice_get net.edges e ≡ Some row → list_any (λ f. f == e) (out_edges net t) ≡ (row.from == t)
out_is net t e row is = any_place (λ (r : EdgeRow). r.from == t) e net.edges ∙ ap (λ o. option_map_or (λ (r : EdgeRow). r.from == t) o false) is

-- numbers that differ are counted once
pub distinct_once : (xs : List ℕ) → IsDistinct ◌==◌ xs → (e : ℕ) → count_by (λ x. x == e) xs ≤ 1
unfolding IsDistinct
distinct_once [] distinct e = omega arith
distinct_once (x ∷ xs) distinct e = by_case (cases_eq x e) (distinct_once xs distinct.1 e)
  where
    split : count_by (λ y. y == e) (x ∷ xs) ≡ cond (x == e) 1 0 + count_by (λ y. y == e) xs
    split = sum_by-cons (λ y. cond (y == e) 1 0) x xs

    none_of : (n : ℕ) (ys : List ℕ) → AllByRecursion (λ y. (n == y) ≡ false) ys → count_by (λ y. y == n) ys ≡ 0
    none_of n [] all = refl
    none_of n (y ∷ ys) all = sum_by-cons (λ z. cond (z == n) 1 0) y ys ∙ rw (eqb_flip y n ∙ all.0) (omega (arith, none_of n ys all.1))

    by_case : (x ≡ e) ⊎ (x ≢ e) → count_by (λ y. y == e) xs ≤ 1 → count_by (λ y. y == e) (x ∷ xs) ≤ 1
    by_case (inl same) once =
        let hit : eqb x e ≡ true = grind (arith, nat_tests) in
        let none : count_by (λ y. y == e) xs ≡ 0 = subst (λ n. count_by (λ y. y == n) xs ≡ 0) same (none_of x xs distinct.0) in
        omega (arith, split, ap one_if hit)
    by_case (inr other) once =
        let miss : eqb x e ≡ false = grind (arith, nat_tests) in
        omega (arith, split, ap one_if miss)

-- each of the edges so far leads out of the task
pub among_more : (net : NetRows) (t : ℕ) (gives : List ℕ) (i e : ℕ) (row : EdgeRow) → i < length gives → e ≡ get_or gives i 0 → slice_get net.edges e ≡ Some row → row.from ≡ t → AreAmong (out_edges net t) (take i gives) → AreAmong (out_edges net t) (take (i + 1) gives)
among_more net t gives i e row within is stands from_it so_far =
    subst (AreAmong (out_edges net t)) (sym (take_more gives i 0 within ∙ ap (λ (x : ℕ). take i gives ++ x ∷ []) (sym is)))
    (all_push (λ g. IsTrue (list_any (λ f. f == g) (out_edges net t))) (take i gives) e so_far (out_is net t e row stands ∙ eq-eqb row.from t from_it))
  where
    all_push : (P : ℕ → Type 0) (xs : List ℕ) (x : ℕ) → AllByRecursion P xs → P x → AllByRecursion P (xs ++ x ∷ [])
    all_push P [] x all last = (last, tt)
    all_push P (y ∷ ys) x all last = (all.0, all_push P ys x all.1 last)

-- one that doesn't isn't among them
pub not_among : (net : NetRows) (t : ℕ) (gives : List ℕ) (i e : ℕ) (row : EdgeRow) → i < length gives → e ≡ get_or gives i 0 → slice_get net.edges e ≡ Some row → row.from ≢ t → ¬ AreAmong (out_edges net t) gives
not_among net t gives i e row within is stands other all =
    let here = All-from_recursion (λ g. IsTrue (list_any (λ f. f == g) (out_edges net t))) gives all i 0 within in
    other (eqb-true row.from t (sym (out_is net t e row stands) ∙ ap (λ g. list_any (λ f. f == g) (out_edges net t)) is ∙ here))

-- One index more in the answer of a choosing task.
use Rattle.std.proofs.Common.{◌≡◌, ◌≢◌, ◌==◌, ℕ, ℤ, zero, suc, ◌<◌, ◌≤◌, not, ◌||◌, Bool, true, false, List, [], ◌∷◌, ◌++◌, length, get_or, set, filter, Option, Some, None, if◌then◌else◌, arith, refl, ap, sym, ◌∙◌, cond, append-nil, add-one, inl, inr, get_or-set_same, get_or-set_other}
use Rattle.std.specs.List.{list_any}
use Rattle.std.specs.List.Sorted.{IsStrictlyIncreasing}
use Rattle.std.proofs.lemmas.Bool.Decides.{nat_tests}
use Rattle.std.proofs.lemmas.Bool.{cases_eq, cases_lt, eq-eqb, ne_eqb}
use Rattle.std.proofs.lemmas.List.Elements.{filter-append}
use Rattle.std.proofs.lemmas.List.Folds.{list_any-append}
use Rattle.std.proofs.lemmas.List.Kept.{AllPairs-from_increasing}
use Rattle.task_graph.specs.Chosen.{edge_at, first_of, chosen_edges}
use Rattle.task_graph.specs.inside.Choices.{HasChosen}
use Rattle.task_graph.specs.Places.{places_from}
use Rattle.task_graph.specs.declared.net.EdgeRow.{EdgeRow}
use Rattle.task_graph.specs.NetRows.{NetRows}
use Rattle.task_graph.specs.Net.{out_edges}

-- the edge at the end, unless it is there already
abbrev pub add_new : Option ℕ → List ℕ → List ℕ
add_new None xs = xs
add_new (Some e) xs = if list_any (λ f. f == e) xs then xs else xs ++ e ∷ []

-- leaving out another number doesn't change whether one is there
any_step : (same : Bool) (x e : ℕ) (kept xs : List ℕ) → (same ≡ true → (x == e) ≡ false)
    → list_any (λ f. f == e) kept ≡ list_any (λ f. f == e) xs
    → list_any (λ f. f == e) (cond (not same) (x ∷ kept) kept) ≡ (x == e) || list_any (λ f. f == e) xs
any_step true x e kept xs differ rest = rest ∙ ap (λ b. b || list_any (λ f. f == e) xs) (sym (differ refl))
any_step false x e kept xs differ rest = ap (λ b. (x == e) || b) rest

list_any-filter_other : (a e : ℕ) (xs : List ℕ) → (e == a) ≡ false → list_any (λ f. f == e) (filter (λ f. not (f == a)) xs) ≡ list_any (λ f. f == e) xs
list_any-filter_other a e [] other = refl
list_any-filter_other a e (x ∷ xs) other =
    any_step (x == a) x e _ xs (λ same. grind (arith, nat_tests)) (list_any-filter_other a e xs other)

-- a first edge before, and one more behind
add_behind : (a e : ℕ) (xs : List ℕ) (same member : Bool) → (e == a) ≡ same → list_any (λ f. f == e) xs ≡ member
    → first_of (Some a) (if member then xs else xs ++ e ∷ [])
    ≡ (if (a == e) || list_any (λ f. f == e) (filter (λ f. not (f == a)) xs) then first_of (Some a) xs else first_of (Some a) xs ++ e ∷ [])
add_behind a e xs true true same member = let other : (a == e) ≡ true = grind (arith, nat_tests) in rw other refl
add_behind a e xs true false same member =
    let other : (a == e) ≡ true = grind (arith, nat_tests) in
    rw (other, filter-append, same) (ap (λ ys. a ∷ ys) (append-nil (filter (λ f. not (f == a)) xs)))
add_behind a e xs false true same member =
    let other : (a == e) ≡ false = grind (arith, nat_tests) in
    rw (other, list_any-filter_other a e xs same, member) refl
add_behind a e xs false false same member =
    let other : (a == e) ≡ false = grind (arith, nat_tests) in
    rw (other, list_any-filter_other a e xs same, member, filter-append, same) refl

first_of-add_new : (o p : Option ℕ) (xs : List ℕ) → first_of o (add_new p xs) ≡ add_new p (first_of o xs)
first_of-add_new None p xs = refl
first_of-add_new (Some a) None xs = refl
first_of-add_new (Some a) (Some e) xs = add_behind a e xs (e == a) (list_any (λ f. f == e) xs) refl refl

add_first : (p : Option ℕ) → first_of p [] ≡ add_new p []
add_first None = refl
add_first (Some e) = refl

chosen_more : (out : List ℕ) (is : List ℤ) (i : ℤ) → chosen_edges out (is ++ i ∷ []) ≡ add_new (edge_at out i) (chosen_edges out is)
chosen_more out [] i = add_first (edge_at out i)
chosen_more out (j ∷ js) i = ap (first_of (edge_at out j)) (chosen_more out js i) ∙ first_of-add_new (edge_at out j) (edge_at out i) (chosen_edges out js)

-- an index without an edge
pub chosen_without : (out : List ℕ) (answer : List ℤ) (index : ℤ) (seen : List Bool) (chosen : List ℕ)
    → edge_at out index ≡ None → HasChosen out answer seen chosen → HasChosen out (answer ++ index ∷ []) seen chosen
chosen_without out answer index seen chosen none has = record {
  edges = has.edges ∙ sym (chosen_more out answer index ∙ ap (λ p. add_new p (chosen_edges out answer)) none);
  marked = has.marked;
}

-- an index of an edge that was chosen before
pub chosen_again : (out : List ℕ) (answer : List ℤ) (index : ℤ) (place : ℕ) (seen : List Bool) (chosen : List ℕ)
    → place < length out → edge_at out index ≡ Some (get_or out place 0) → get_or seen place false ≡ true
    → HasChosen out answer seen chosen → HasChosen out (answer ++ index ∷ []) seen chosen
chosen_again out answer index place seen chosen within found is_seen has =
    let member : list_any (λ e. e == get_or out place 0) (chosen_edges out answer) ≡ true =
    ap (λ xs. list_any (λ e. e == get_or out place 0) xs) (sym has.edges) ∙ sym (has.marked place false within) ∙ is_seen in
    record {
      edges = has.edges ∙ sym (chosen_more out answer index ∙ ap (λ p. add_new p (chosen_edges out answer)) found
          ∙ ap (λ b. if b then chosen_edges out answer else chosen_edges out answer ++ get_or out place 0 ∷ []) member);
      marked = has.marked;
    }

-- an index of another edge
or-false : (b : Bool) → b || false ≡ b
or-false true = refl
or-false false = refl

list_any-push : (p : ℕ → Bool) (xs : List ℕ) (y : ℕ) → list_any p (xs ++ y ∷ []) ≡ list_any p xs || p y
list_any-push p xs y = list_any-append p xs (y ∷ []) ∙ ap (λ b. list_any p xs || b) (or-false (p y))

increasing_differ : (xs : List ℕ) → IsStrictlyIncreasing xs → (i j : ℕ) → i < length xs → j < length xs → i ≢ j → (get_or xs i 0 == get_or xs j 0) ≡ false
increasing_differ xs rising i j hi hj differ = ne_eqb (get_or xs i 0) (get_or xs j 0) (elim (cases_lt i j) [
  | inl before ↦ λ same. let lt = AllPairs-from_increasing xs rising i j 0 before hj in omega arith
  | inr behind ↦ λ same. let lt = AllPairs-from_increasing xs rising j i 0 (omega arith) hi in omega arith
])

or-true : (b : Bool) → true ≡ b || true
or-true true = refl
or-true false = refl

-- the mark at a place after another edge was chosen
marked_new : (out : List ℕ) (place : ℕ) (seen : List Bool) (chosen : List ℕ) (k : ℕ) (d : Bool)
    → IsStrictlyIncreasing out → length seen ≡ length out → place < length out → k < length out
    → get_or seen k d ≡ list_any (λ e. e == get_or out k 0) chosen
    → get_or (set seen place true) k d ≡ list_any (λ e. e == get_or out k 0) chosen || (get_or out place 0 == get_or out k 0)
marked_new out place seen chosen k d rising lengths within h was = elim (cases_eq k place) [
  | inl same ↦
      ap (λ j. get_or (set seen place true) j d) same ∙ get_or-set_same seen place true d (omega arith)
      ∙ or-true (list_any (λ e. e == get_or out k 0) chosen)
      ∙ ap (λ b. list_any (λ e. e == get_or out k 0) chosen || b) (sym (eq-eqb (get_or out place 0) (get_or out k 0) (ap (λ j. get_or out j 0) (sym same))))
  | inr other ↦
      get_or-set_other seen place k true d other ∙ was
      ∙ sym (ap (λ b. list_any (λ e. e == get_or out k 0) chosen || b) (increasing_differ out rising place k within h (λ e. other (sym e)))
      ∙ or-false (list_any (λ e. e == get_or out k 0) chosen))
]

pub chosen_new : (out : List ℕ) (answer : List ℤ) (index : ℤ) (place : ℕ) (seen : List Bool) (chosen : List ℕ)
    → IsStrictlyIncreasing out → length seen ≡ length out
    → place < length out → edge_at out index ≡ Some (get_or out place 0) → get_or seen place false ≡ false
    → HasChosen out answer seen chosen → HasChosen out (answer ++ index ∷ []) (set seen place true) (chosen ++ get_or out place 0 ∷ [])
chosen_new out answer index place seen chosen rising lengths within found unseen has =
    let member : list_any (λ e. e == get_or out place 0) (chosen_edges out answer) ≡ false =
    ap (λ xs. list_any (λ e. e == get_or out place 0) xs) (sym has.edges) ∙ sym (has.marked place false within) ∙ unseen in
    record {
      edges = ap (λ xs. xs ++ get_or out place 0 ∷ []) has.edges
          ∙ sym (chosen_more out answer index ∙ ap (λ p. add_new p (chosen_edges out answer)) found
          ∙ ap (λ b. if b then chosen_edges out answer else chosen_edges out answer ++ get_or out place 0 ∷ []) member);
      marked = λ k d h.
          marked_new out place seen chosen k d rising lengths within h (has.marked k d h)
          ∙ sym (list_any-push (λ e. e == get_or out k 0) chosen (get_or out place 0));
    }

-- the places at which a test passes, the first item standing at place n, are n at least
abbrev AtLeast : ℕ → List ℕ → Type 0
AtLeast n ps = (k : ℕ) → k < length ps → n ≤ get_or ps k 0

places_at_least : {X : Type 0} (p : X → Bool) (n : ℕ) (xs : List X) → AtLeast n (places_from p n xs)
places_at_least p n [] k h = absurd (omega arith)
places_at_least p n (x ∷ xs) k h = by_test (p x) (places_from p (suc n) xs) (places_at_least p (suc n) xs) k h
  where
    by_test : (b : Bool) (rest : List ℕ) → AtLeast (suc n) rest → AtLeast n (cond b (n ∷ rest) rest)
    by_test true rest above zero h = omega arith
    by_test true rest above (suc k) h = let next = above k (omega arith) in omega arith
    by_test false rest above k h = let next = above k h in omega arith

-- and rise
places_from_rise : {X : Type 0} (p : X → Bool) (n : ℕ) (xs : List X) → IsStrictlyIncreasing (places_from p n xs)
places_from_rise p n [] k h = absurd (omega arith)
places_from_rise p n (x ∷ xs) k h = by_test (p x) (places_from p (suc n) xs) (places_at_least p (suc n) xs) (places_from_rise p (suc n) xs) k h
  where
    by_test : (b : Bool) (rest : List ℕ) → AtLeast (suc n) rest → IsStrictlyIncreasing rest → IsStrictlyIncreasing (cond b (n ∷ rest) rest)
    by_test true rest above rising zero h = let next = above 0 (omega arith) in omega arith
    by_test true rest above rising (suc k) h = let next = rising k (omega arith) in rw (add-one (suc k)) (rw (add-one k) at next)
    by_test false rest above rising k h = rising k h

pub out_edges_rise : (net : NetRows) (t : ℕ) → IsStrictlyIncreasing (out_edges net t)
out_edges_rise net t = places_from_rise (λ (row : EdgeRow). row.from == t) 0 net.edges

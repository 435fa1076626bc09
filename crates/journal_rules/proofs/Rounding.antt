-- What tokens do to the rounds of a task's strong in-edges.
use Rattle.std.proofs.Common.{◌≡◌, ◌≢◌, ◌⊎◌, inl, inr, ℕ, ◌+◌, ◌<◌, ◌≤◌, Bool, true, false, not, ◌&&◌, cond, eqb, min, Some, List, [], ◌∷◌, length, map, fold, sym, refl, ap, ◌∙◌, subst, arith, get_or, set, length-set, get_or-set_same, get_or-set_other}
use Rattle.std.specs.Prelude.{count_by, ◌==◌, All, slice_get}
use Rattle.std.specs.Option.{option_map_or}
use Rattle.std.proofs.lemmas.Option.{slice_get-get_or}
use Rattle.std.specs.List.{AllByRecursion}
use Rattle.std.proofs.lemmas.Bool.{cases_eq, cases_lt}
use Rattle.std.proofs.lemmas.Bool.Decides.{nat_tests}
use Rattle.std.proofs.lemmas.List.Sums.{sum_by-cons}
use Rattle.std.proofs.lemmas.List.Elements.{All-from_recursion, recursion_from_All}
use Rattle.task_graph.specs.NetRows.{NetRows}
use Rattle.task_graph.specs.Net.{is_weak, is_weak_row, strong_in, IsNet, IsEdgeOf}
use Rattle.task_graph.specs.declared.net.EdgeRow.{EdgeRow}
use Rattle.journal_rules.specs.declared.rounds.Round.{Round}
use Rattle.journal_rules.specs.declared.rounds.Rounds.{Rounds}
use Rattle.journal_rules.specs.Complete.{least}
use Rattle.journal_rules.specs.inside.Rounds.{IsRound, GivenOnce, AreRounds}
use Rattle.journal_rules.proofs.NetLemmas.{any_place, at_place, counted_once}
use Rattle.journal_rules.proofs.Tallying.{count_once, and_false}

abbrev one_if : Bool → ℕ
one_if b = cond b 1 0

count_cons : {X : Type 0} (p : X → Bool) (x : X) (xs : List X) → count_by p (x ∷ xs) ≡ one_if (p x) + count_by p xs
count_cons p x xs = sum_by-cons (λ y. one_if (p y)) x xs

-- the least of a number and some more is at most the number and each of them, and one of them
pub fold_min : (f : ℕ → ℕ) (n : ℕ) (es : List ℕ) → (fold min n (map f es) ≤ n) × AllByRecursion (λ e. fold min n (map f es) ≤ f e) es × ((fold min n (map f es) ≡ n) ⊎ (1 ≤ count_by (λ e. f e == fold min n (map f es)) es))
fold_min f n [] = (omega arith, tt, inl refl)
fold_min f n (e ∷ es) =
    let m = fold min (min n (f e)) (map f es) in
    let rest = fold_min f (min n (f e)) es in
    let below : m ≤ min n (f e) = rest.0 in
    (omega arith, (omega arith, rest.1), by_case rest.2 (cases_lt (f e) n))
  where
    by_case : (fold min (min n (f e)) (map f es) ≡ min n (f e)) ⊎ (1 ≤ count_by (λ g. f g == fold min (min n (f e)) (map f es)) es) → (f e < n) ⊎ (n ≤ f e)
        → (fold min (min n (f e)) (map f es) ≡ n) ⊎ (1 ≤ count_by (λ g. f g == fold min (min n (f e)) (map f es)) (e ∷ es))
    by_case (inl is) (inl less) =
        let m : fold min (min n (f e)) (map f es) ≡ f e = omega arith in
        let hit : eqb (f e) (fold min (min n (f e)) (map f es)) ≡ true = grind (arith, nat_tests) in
        inr (omega (arith, count_cons (λ g. f g == fold min (min n (f e)) (map f es)) e es, ap one_if hit))
    by_case (inl is) (inr more) = inl (omega arith)
    by_case (inr some) any = inr (omega (arith, count_cons (λ g. f g == fold min (min n (f e)) (map f es)) e es))

-- the round of edges by the least count
pub round_of : (given edges : List ℕ) (round : Round) → round.least ≡ least (map (λ e. get_or given e 0) edges) → round.at_least ≡ count_by (λ e. get_or given e 0 == round.least) edges → IsRound given edges round
round_of given [] round is count = record { above = λ k d below. absurd (omega arith); count = count; reached = λ some. absurd (some refl); no_edge = λ none. is }
round_of given (e ∷ es) round is count =
    let f = λ (g : ℕ). get_or given g 0 in
    let m = fold_min f (f e) es in
    record {
      above = All-from_recursion (λ g. round.least ≤ f g) (e ∷ es) (subst (λ n. AllByRecursion (λ g. n ≤ f g) (e ∷ es)) (sym is) (m.0, m.1));
      count = count;
      reached = λ some. omega (arith, count, subst (λ n. 1 ≤ count_by (λ g. f g == n) (e ∷ es)) (sym is) (one m.2));
      no_edge = λ none. absurd (cc);
    }
  where
    one : (fold min (get_or given e 0) (map (λ g. get_or given g 0) es) ≡ get_or given e 0) ⊎ (1 ≤ count_by (λ g. get_or given g 0 == fold min (get_or given e 0) (map (λ h. get_or given h 0) es)) es)
        → 1 ≤ count_by (λ g. get_or given g 0 == fold min (get_or given e 0) (map (λ h. get_or given h 0) es)) (e ∷ es)
    one (inl same) =
        let hit : eqb (get_or given e 0) (fold min (get_or given e 0) (map (λ h. get_or given h 0) es)) ≡ true = grind (arith, nat_tests) in
        omega (arith, count_cons (λ g. get_or given g 0 == fold min (get_or given e 0) (map (λ h. get_or given h 0) es)) e es, ap one_if hit)
    one (inr some) = omega (arith, count_cons (λ g. get_or given g 0 == fold min (get_or given e 0) (map (λ h. get_or given h 0) es)) e es)

-- a least number that some edge has and none is below is the least
fold_min_is : (f : ℕ → ℕ) (m n : ℕ) (es : List ℕ) → m ≤ n → AllByRecursion (λ e. m ≤ f e) es → (m ≡ n) ⊎ (1 ≤ count_by (λ e. f e == m) es) → fold min n (map f es) ≡ m
fold_min_is f m n [] below above (inl is) = sym is
fold_min_is f m n [] below above (inr some) = absurd (omega arith)
fold_min_is f m n (e ∷ es) below above c = fold_min_is f m (min n (f e)) es (omega (arith, above.0)) above.1 (by_case c (cases_eq (f e) m))
  where
    by_case : (m ≡ n) ⊎ (1 ≤ count_by (λ g. f g == m) (e ∷ es)) → (f e ≡ m) ⊎ (f e ≢ m) → (m ≡ min n (f e)) ⊎ (1 ≤ count_by (λ g. f g == m) es)
    by_case (inl is) any = inl (omega (arith, above.0))
    by_case (inr some) (inl hit) = inl (omega arith)
    by_case (inr some) (inr other) =
        let miss : eqb (f e) m ≡ false = grind (arith, nat_tests) in
        inr (omega (arith, count_cons (λ g. f g == m) e es, ap one_if miss))

pub least_is : (given edges : List ℕ) (round : Round) → IsRound given edges round → least (map (λ e. get_or given e 0) edges) ≡ round.least
least_is given [] round is = sym (is.no_edge refl)
least_is given (e ∷ es) round is =
    let f = λ (g : ℕ). get_or given g 0 in
    let above = recursion_from_All (λ g. round.least ≤ f g) (e ∷ es) is.above in
    let some : 1 ≤ count_by (λ g. f g == round.least) (e ∷ es) = omega (arith, is.count, is.reached (λ none. absurd (cc))) in
    fold_min_is f round.least (f e) es above.0 above.1 (by_case (cases_eq (f e) round.least) some)
  where
    by_case : (get_or given e 0 ≡ round.least) ⊎ (get_or given e 0 ≢ round.least) → 1 ≤ count_by (λ g. get_or given g 0 == round.least) (e ∷ es) → (round.least ≡ get_or given e 0) ⊎ (1 ≤ count_by (λ g. get_or given g 0 == round.least) es)
    by_case (inl same) some = inl (sym same)
    by_case (inr other) some =
        let miss : eqb (get_or given e 0) round.least ≡ false = grind (arith, nat_tests) in
        inr (omega (arith, count_cons (λ g. get_or given g 0 == round.least) e es, ap one_if miss))

-- counts of two tests that agree off one edge, which isn't there
count_off : (e : ℕ) (p q : ℕ → Bool) → ((f : ℕ) → f ≢ e → p f ≡ q f) → (es : List ℕ) → count_by (λ f. f == e) es ≡ 0 → count_by p es ≡ count_by q es
count_off e p q same [] none = refl
count_off e p q same (f ∷ es) none = by_case (cases_eq f e) (λ h. count_off e p q same es h)
  where
    by_case : (f ≡ e) ⊎ (f ≢ e) → (count_by (λ g. g == e) es ≡ 0 → count_by p es ≡ count_by q es) → count_by p (f ∷ es) ≡ count_by q (f ∷ es)
    by_case (inl is) rest =
        let hit : eqb f e ≡ true = grind (arith, nat_tests) in
        absurd (omega (arith, count_cons (λ g. g == e) f es, ap one_if hit))
    by_case (inr other) rest =
        let tail : count_by p es ≡ count_by q es = rest (omega (arith, count_cons (λ g. g == e) f es)) in
        omega (arith, tail, count_cons p f es, count_cons q f es, ap one_if (same f other))

-- and of two that agree off one that is there once
count_once_off : (e : ℕ) (p q : ℕ → Bool) → ((f : ℕ) → f ≢ e → p f ≡ q f) → (es : List ℕ) → count_by (λ f. f == e) es ≡ 1 → count_by p es + one_if (q e) ≡ count_by q es + one_if (p e)
count_once_off e p q same [] once = absurd (omega arith)
count_once_off e p q same (f ∷ es) once = by_case (cases_eq f e) (λ h. count_once_off e p q same es h)
  where
    by_case : (f ≡ e) ⊎ (f ≢ e) → (count_by (λ g. g == e) es ≡ 1 → count_by p es + one_if (q e) ≡ count_by q es + one_if (p e)) → count_by p (f ∷ es) + one_if (q e) ≡ count_by q (f ∷ es) + one_if (p e)
    by_case (inl is) rest =
        let hit : eqb f e ≡ true = grind (arith, nat_tests) in
        let tail = count_off e p q same es (omega (arith, count_cons (λ g. g == e) f es, ap one_if hit)) in
        omega (arith, tail, count_cons p f es, count_cons q f es, ap (λ g. one_if (p g)) is, ap (λ g. one_if (q g)) is)
    by_case (inr other) rest =
        let miss : eqb f e ≡ false = grind (arith, nat_tests) in
        let tail : count_by p es + one_if (q e) ≡ count_by q es + one_if (p e) = rest (omega (arith, count_cons (λ g. g == e) f es, ap one_if miss)) in
        omega (arith, tail, count_cons p f es, count_cons q f es, ap one_if (same f other))

-- an edge that is there has what each has
pub at_counted : (P : ℕ → Type 0) (e : ℕ) (es : List ℕ) → AllByRecursion P es → 1 ≤ count_by (λ f. f == e) es → P e
at_counted P e [] all some = absurd (omega arith)
at_counted P e (f ∷ es) all some = by_case (cases_eq f e) (λ h. at_counted P e es all.1 h)
  where
    by_case : (f ≡ e) ⊎ (f ≢ e) → (1 ≤ count_by (λ g. g == e) es → P e) → P e
    by_case (inl is) rest = subst P is all.0
    by_case (inr other) rest =
        let miss : eqb f e ≡ false = grind (arith, nat_tests) in
        rest (omega (arith, count_cons (λ g. g == e) f es, ap one_if miss))

-- and is counted where it passes
count_there : (e : ℕ) (p : ℕ → Bool) (es : List ℕ) → p e ≡ true → 1 ≤ count_by (λ f. f == e) es → 1 ≤ count_by p es
count_there e p [] passes some = absurd (omega arith)
count_there e p (f ∷ es) passes some = by_case (cases_eq f e) (λ h. count_there e p es passes h)
  where
    by_case : (f ≡ e) ⊎ (f ≢ e) → (1 ≤ count_by (λ g. g == e) es → 1 ≤ count_by p es) → 1 ≤ count_by p (f ∷ es)
    by_case (inl is) rest = omega (arith, count_cons p f es, ap (λ g. one_if (p g)) is, ap one_if passes)
    by_case (inr other) rest =
        let miss : eqb f e ≡ false = grind (arith, nat_tests) in
        let tail : 1 ≤ count_by p es = rest (omega (arith, count_cons (λ g. g == e) f es, ap one_if miss)) in
        omega (arith, tail, count_cons p f es)

-- numbers that are at least m and never m are above it
above_more : (f : ℕ → ℕ) (m : ℕ) (es : List ℕ) → AllByRecursion (λ e. m ≤ f e) es → count_by (λ e. f e == m) es ≡ 0 → AllByRecursion (λ e. m + 1 ≤ f e) es
above_more f m [] above none = tt
above_more f m (e ∷ es) above none = by_case (cases_eq (f e) m) (λ h. above_more f m es above.1 h)
  where
    by_case : (f e ≡ m) ⊎ (f e ≢ m) → (count_by (λ g. f g == m) es ≡ 0 → AllByRecursion (λ g. m + 1 ≤ f g) es) → AllByRecursion (λ g. m + 1 ≤ f g) (e ∷ es)
    by_case (inl is) rest =
        let hit : eqb (f e) m ≡ true = grind (arith, nat_tests) in
        absurd (omega (arith, count_cons (λ g. f g == m) e es, ap one_if hit))
    by_case (inr other) rest = (omega (arith, above.0), rest (omega (arith, count_cons (λ g. f g == m) e es)))

here : (old given edges : List ℕ) (e before : ℕ) → GivenOnce old given edges e before → get_or given e 0 ≡ before + 1
here old given edges e before g = ap (λ xs. get_or xs e 0) g.now ∙ get_or-set_same old e (before + 1) 0 g.within

elsewhere : (old given edges : List ℕ) (e before : ℕ) → GivenOnce old given edges e before → (f : ℕ) → f ≢ e → get_or given f 0 ≡ get_or old f 0
elsewhere old given edges e before g f other = ap (λ xs. get_or xs f 0) g.now ∙ get_or-set_other old e f (before + 1) 0 other

grows : (old given edges : List ℕ) (e before : ℕ) → GivenOnce old given edges e before → (f : ℕ) → get_or old f 0 ≤ get_or given f 0
grows old given edges e before g f = by_case (cases_eq f e)
  where
    by_case : (f ≡ e) ⊎ (f ≢ e) → get_or old f 0 ≤ get_or given f 0
    by_case (inl is) = subst (λ k. get_or old k 0 ≤ get_or given k 0) (sym is) (omega (arith, here old given edges e before g, g.was))
    by_case (inr other) = omega (arith, elsewhere old given edges e before g f other)

-- how many have this number, before and after
recount : (old given edges : List ℕ) (e before m : ℕ) → GivenOnce old given edges e before → count_by (λ f. get_or given f 0 == m) edges + one_if (before == m) ≡ count_by (λ f. get_or old f 0 == m) edges + one_if (before + 1 == m)
recount old given edges e before m g =
    let law = count_once_off e (λ f. get_or given f 0 == m) (λ f. get_or old f 0 == m) (λ f other. ap (λ n. eqb n m) (elsewhere old given edges e before g f other)) edges g.once in
    omega (arith, law, ap (λ n. one_if (eqb n m)) g.was, ap (λ n. one_if (eqb n m)) (here old given edges e before g))

lowest_below : (old given edges : List ℕ) (e before : ℕ) (round : Round) → IsRound old edges round → GivenOnce old given edges e before → round.least ≤ before
lowest_below old given edges e before round is g = omega (arith, at_counted (λ f. round.least ≤ get_or old f 0) e edges (recursion_from_All (λ f. round.least ≤ get_or old f 0) edges is.above) (omega (arith, g.once)), g.was)

above_still : (old given edges : List ℕ) (e before : ℕ) (round : Round) → IsRound old edges round → GivenOnce old given edges e before → All (λ f. round.least ≤ get_or given f 0) edges
above_still old given edges e before round is g = λ k d below. omega (arith, is.above k d below, grows old given edges e before g (get_or edges k d))

-- an edge above the least
pub round_same : (old given edges : List ℕ) (e before : ℕ) (round : Round) → IsRound old edges round → GivenOnce old given edges e before → before ≢ round.least → IsRound given edges round
round_same old given edges e before round is g other =
    let lowest = lowest_below old given edges e before round is g in
    let miss : eqb before round.least ≡ false = grind (arith, nat_tests) in
    let miss_after : eqb (before + 1) round.least ≡ false = grind (arith, nat_tests) in
    record {
      above = above_still old given edges e before round is g;
      count = omega (arith, is.count, recount old given edges e before round.least g, ap one_if miss, ap one_if miss_after);
      reached = is.reached;
      no_edge = is.no_edge;
    }

-- one of several at the least
pub round_fewer : (old given edges : List ℕ) (e before : ℕ) (round new : Round) → IsRound old edges round → GivenOnce old given edges e before → before ≡ round.least
    → new.least ≡ round.least → new.at_least + 1 ≡ round.at_least → new.at_least ≢ 0 → IsRound given edges new
round_fewer old given edges e before round new is g at least_is fewer some =
    let hit : eqb before round.least ≡ true = grind (arith, nat_tests) in
    let miss_after : eqb (before + 1) round.least ≡ false = grind (arith, nat_tests) in
    record {
      above = subst (λ n. All (λ f. n ≤ get_or given f 0) edges) (sym least_is) (above_still old given edges e before round is g);
      count = subst (λ n. new.at_least ≡ count_by (λ f. get_or given f 0 == n) edges) (sym least_is) (omega (arith, is.count, recount old given edges e before round.least g, ap one_if hit, ap one_if miss_after));
      reached = λ any. omega arith;
      no_edge = λ none. least_is ∙ is.no_edge none;
    }

-- the last one at the least
pub round_next : (old given edges : List ℕ) (e before : ℕ) (round new : Round) → IsRound old edges round → GivenOnce old given edges e before → before ≡ round.least
    → new.least ≡ round.least + 1 → round.at_least ≡ 1 → new.at_least ≡ count_by (λ f. get_or given f 0 == new.least) edges → IsRound given edges new
round_next old given edges e before round new is g at least_is last count_is =
    let hit : eqb before round.least ≡ true = grind (arith, nat_tests) in
    let miss_after : eqb (before + 1) round.least ≡ false = grind (arith, nat_tests) in
    let none : count_by (λ f. get_or given f 0 == round.least) edges ≡ 0 = omega (arith, is.count, recount old given edges e before round.least g, ap one_if hit, ap one_if miss_after) in
    let above = above_more (λ f. get_or given f 0) round.least edges (recursion_from_All (λ f. round.least ≤ get_or given f 0) edges (above_still old given edges e before round is g)) none in
    let here_now = here old given edges e before g in
    let now_hit : eqb (get_or given e 0) new.least ≡ true = grind (arith, nat_tests) in
    record {
      above = All-from_recursion (λ f. new.least ≤ get_or given f 0) edges (subst (λ n. AllByRecursion (λ f. n ≤ get_or given f 0) edges) (sym least_is) above);
      count = count_is;
      reached = λ any. omega (arith, count_is, count_there e (λ f. get_or given f 0 == new.least) edges now_hit (omega (arith, g.once)));
      no_edge = λ empty. absurd (no_edge edges empty g.once);
    }
  where
    no_edge : (es : List ℕ) → es ≡ [] → count_by (λ f. f == e) es ≡ 1 → ⊥
    no_edge [] empty once = omega arith
    no_edge (f ∷ es) empty once = cc

-- edges that a change doesn't touch
pub round_elsewhere : (old edges : List ℕ) (e value : ℕ) (round : Round) → IsRound old edges round → count_by (λ f. f == e) edges ≡ 0 → IsRound (set old e value) edges round
round_elsewhere old edges e value round is none = record {
  above = All-from_recursion (λ f. round.least ≤ get_or (set old e value) f 0) edges (all_off e (λ f. round.least ≤ get_or old f 0) (λ f. round.least ≤ get_or (set old e value) f 0) (λ f other h. omega (arith, same f other)) edges none (recursion_from_All (λ f. round.least ≤ get_or old f 0) edges is.above));
  count = is.count ∙ count_off e (λ f. get_or old f 0 == round.least) (λ f. get_or (set old e value) f 0 == round.least) (λ f other. ap (λ n. eqb n round.least) (sym (same f other))) edges none;
  reached = is.reached;
  no_edge = is.no_edge;
}
  where
    same : (f : ℕ) → f ≢ e → get_or (set old e value) f 0 ≡ get_or old f 0
    same f other = get_or-set_other old e f value 0 other

    all_off : (g : ℕ) (P Q : ℕ → Type 0) → ((f : ℕ) → f ≢ g → P f → Q f) → (es : List ℕ) → count_by (λ f. f == g) es ≡ 0 → AllByRecursion P es → AllByRecursion Q es
    all_off g P Q more [] none all = tt
    all_off g P Q more (f ∷ es) none all =
        (by_case (cases_eq f g), all_off g P Q more es (omega (arith, count_cons (λ k. k == g) f es)) all.1)
      where
        by_case : (f ≡ g) ⊎ (f ≢ g) → Q f
        by_case (inl is_it) =
            let hit : eqb f g ≡ true = grind (arith, nat_tests) in
            absurd (omega (arith, count_cons (λ k. k == g) f es, ap one_if hit))
        by_case (inr other) = more f other all.0

-- an edge is once among the strong in-edges of its target, if it is strong, and among those of no other task
abbrev strong_into : NetRows → ℕ → EdgeRow → Bool
strong_into net t row = (row.to == t) && not (is_weak_row net row)

among : (net : NetRows) (e t : ℕ) (row : EdgeRow) (b : Bool) → slice_get net.edges e ≡ Some row → strong_into net t row ≡ b → count_by (λ f. f == e) (strong_in net t) ≡ one_if b
among net e t row b is leads =
    count_once (λ f. f == e) (strong_in net t) (counted_once (strong_into net t) net.edges e)
    ∙ ap one_if (any_place (strong_into net t) e net.edges ∙ ap (λ o. option_map_or (strong_into net t) o false) is ∙ leads)

pub strong_once : (net : NetRows) (e : ℕ) (row : EdgeRow) → slice_get net.edges e ≡ Some row → is_weak_row net row ≡ false → count_by (λ f. f == e) (strong_in net row.to) ≡ 1
strong_once net e row is strong =
    let hit : eqb row.to row.to ≡ true = grind (arith, nat_tests) in
    among net e row.to row true is (rw (hit, strong) refl)

strong_other : (net : NetRows) (e t : ℕ) (row : EdgeRow) → slice_get net.edges e ≡ Some row → t ≢ row.to → count_by (λ f. f == e) (strong_in net t) ≡ 0
strong_other net e t row is other =
    let miss : eqb row.to t ≡ false = grind (arith, nat_tests) in
    among net e t row false is (rw miss refl)

weak_none : (net : NetRows) (e t : ℕ) (row : EdgeRow) → slice_get net.edges e ≡ Some row → is_weak_row net row ≡ true → count_by (λ f. f == e) (strong_in net t) ≡ 0
weak_none net e t row is weak = among net e t row false is (rw weak (and_false (row.to == t)))

-- a token of a weak edge
pub rounds_weak : (net : NetRows) (old new : Rounds) (e value : ℕ) (row : EdgeRow) → AreRounds net old → slice_get net.edges e ≡ Some row → is_weak_row net row ≡ true
    → new.given.items ≡ set old.given.items e value → new.by_task.items ≡ old.by_task.items → AreRounds net new
rounds_weak net old new e value row are is weak given_is rounds_are = record {
  given_len = ap length given_is ∙ length-set old.given.items e value ∙ are.given_len;
  len = ap length rounds_are ∙ are.len;
  each = λ t d below. subst (λ xs. IsRound xs (strong_in net t) (get_or new.by_task.items t d)) (sym given_is) (subst (λ rs. IsRound (set old.given.items e value) (strong_in net t) (get_or rs t d)) (sym rounds_are)
      (round_elsewhere old.given.items (strong_in net t) e value (get_or old.by_task.items t d) (are.each t d below) (weak_none net e t row is weak)));
}

-- a token of a strong edge
pub rounds_strong : (net : NetRows) (old new : Rounds) (e value : ℕ) (row : EdgeRow) (round : Round) → AreRounds net old → slice_get net.edges e ≡ Some row → row.to < length net.tasks
    → new.given.items ≡ set old.given.items e value → new.by_task.items ≡ set old.by_task.items row.to round → IsRound new.given.items (strong_in net row.to) round → AreRounds net new
rounds_strong net old new e value row round are is in_range given_is rounds_are here = record {
  given_len = ap length given_is ∙ length-set old.given.items e value ∙ are.given_len;
  len = ap length rounds_are ∙ length-set old.by_task.items row.to round ∙ are.len;
  each = λ t d below. subst (λ rs. IsRound new.given.items (strong_in net t) (get_or rs t d)) (sym rounds_are) (by_case t d below (cases_eq t row.to));
}
  where
    by_case : (t : ℕ) (d : Round) → t < length net.tasks → (t ≡ row.to) ⊎ (t ≢ row.to) → IsRound new.given.items (strong_in net t) (get_or (set old.by_task.items row.to round) t d)
    by_case t d below (inl same) =
        subst (λ u. IsRound new.given.items (strong_in net u) (get_or (set old.by_task.items row.to round) u d)) (sym same)
        (subst (λ r. IsRound new.given.items (strong_in net row.to) r) (sym (get_or-set_same old.by_task.items row.to round d (omega (arith, are.len)))) here)
    by_case t d below (inr other) =
        subst (λ r. IsRound new.given.items (strong_in net t) r) (sym (get_or-set_other old.by_task.items row.to t round d other))
        (subst (λ xs. IsRound xs (strong_in net t) (get_or old.by_task.items t d)) (sym given_is)
        (round_elsewhere old.given.items (strong_in net t) e value (get_or old.by_task.items t d) (are.each t d below) (strong_other net e t row is other)))

-- the round of a strong edge's target has an edge, and its least number is that of an edge
pub target_reached : (net : NetRows) (rounds : Rounds) (e : ℕ) (row : EdgeRow) (d : Round) → AreRounds net rounds → slice_get net.edges e ≡ Some row → is_weak_row net row ≡ false → row.to < length net.tasks
    → 1 ≤ (get_or rounds.by_task.items row.to d).at_least
target_reached net rounds e row d are is strong in_range = (are.each row.to d in_range).reached (λ none. empty (strong_in net row.to) none (strong_once net e row is strong))
  where
    empty : (es : List ℕ) → es ≡ [] → count_by (λ f. f == e) es ≡ 1 → ⊥
    empty [] none once = omega arith
    empty (f ∷ es) none once = cc

pub target_least : (net : NetRows) (rounds : Rounds) (e : ℕ) (row : EdgeRow) (d : Round) → AreRounds net rounds → slice_get net.edges e ≡ Some row → is_weak_row net row ≡ false → row.to < length net.tasks
    → (get_or rounds.by_task.items row.to d).least ≤ get_or rounds.given.items e 0
target_least net rounds e row d are is strong in_range =
    let round = are.each row.to d in_range in
    at_counted (λ f. (get_or rounds.by_task.items row.to d).least ≤ get_or rounds.given.items f 0) e (strong_in net row.to)
    (recursion_from_All (λ f. (get_or rounds.by_task.items row.to d).least ≤ get_or rounds.given.items f 0) (strong_in net row.to) round.above) (omega (arith, strong_once net e row is strong))

-- a row that stands
pub row_stands : (net : NetRows) (e : ℕ) (d : EdgeRow) → e < length net.edges → slice_get net.edges e ≡ Some (get_or net.edges e d)
row_stands net e d below = slice_get-get_or net.edges e d below

pub weak_row : (net : NetRows) (e : ℕ) (row : EdgeRow) (b : Bool) → slice_get net.edges e ≡ Some row → b ≡ is_weak net e → is_weak_row net row ≡ b
weak_row net e row b is weak = sym (weak ∙ ap (λ o. option_map_or (is_weak_row net) o false) is)

pub target_in_range : (net : NetRows) (e : ℕ) (row : EdgeRow) → IsNet net → slice_get net.edges e ≡ Some row → row.to < length net.tasks
target_in_range net e row rows is = (at_place (IsEdgeOf net) net.edges e row rows.edges is).to_in_range

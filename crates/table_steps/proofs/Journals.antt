-- What the counts of units, of closed starts and of claims are after one entry more.
use Rattle.std.proofs.Common.{◌≡◌, ◌≢◌, ◌⊎◌, inl, inr, ℕ, zero, suc, ◌+◌, ◌<◌, ◌≤◌, Bool, true, false, not, ◌&&◌, cond, eqb, List, [], ◌∷◌, ◌++◌, length, take, Option, Some, None, sym, refl, ap, ◌∙◌, subst, arith}
use Rattle.std.specs.Prelude.{count_by, ◌==◌, is_some}
use Rattle.std.specs.Option.{option_map_or}
use Rattle.std.specs.List.{enumerate_from}
use Rattle.std.proofs.lemmas.Bool.Decides.{nat_tests}
use Rattle.std.proofs.lemmas.Bool.{cases_eq, cases_lt, false≢true}
use Rattle.std.proofs.lemmas.List.{take-append-le, length_push}
use Rattle.std.proofs.lemmas.List.Sums.{sum_by-cons}
use Rattle.task_graph.specs.NetRows.{NetRows}
use Rattle.journal_rules.specs.declared.entry.Entry.{Entry}
use Rattle.journal_rules.specs.declared.entry.Entry.TheVariants.{Start, End, Fault, Drop}
use Rattle.journal_rules.specs.Counts.{start_at, started, closes, is_open}
use Rattle.journal_rules.specs.SemaphoreRule.{takes, puts, gives_back, back, closed_takers, other_putters, IsOverRelease}
use Rattle.journal_rules.proofs.Snoc.{count_by_push, start_at_push_below, start_at_push_last, is_open_push_below}
use Rattle.journal_rules.proofs.Tallying.{count_by_push_no, and_true, and_false}
use Rattle.table_steps.specs.inside.Duties.{is_run}
use Rattle.table_steps.specs.Giving.{one_if}
use Rattle.table_steps.proofs.Counting.{run_past}
use Rattle.table_steps.specs.inside.Accounts.{only_takes}

pub count_cons : {X : Type 0} (p : X → Bool) (x : X) (xs : List X) → count_by p (x ∷ xs) ≡ one_if (p x) + count_by p xs
count_cons p x xs = sum_by-cons (λ y. cond (p y) 1 0) x xs

pub none_of : (b : Bool) → one_if b ≡ 0 → b ≡ false
none_of true h = absurd (omega arith)
none_of false h = refl

-- UNITS GIVEN BACK
same_back : (net : NetRows) (s : ℕ) (journal : List Entry) (x y : Entry) → ((m : ℕ) → length journal ≤ m → closes m y ≡ false) → gives_back net s (journal ++ x ∷ []) y ≡ gives_back net s journal y
same_back net s journal x (Start t cause ins) none = refl
same_back net s journal x (End start gives inner) none = by_place (cases_lt start (length journal))
  where
    by_place : (start < length journal) ⊎ (length journal ≤ start) → gives_back net s (journal ++ x ∷ []) (End start gives inner) ≡ gives_back net s journal (End start gives inner)
    by_place (inl before) = ap (λ o. option_map_or (puts net s) o false) (start_at_push_below journal x start before)
    by_place (inr after) = let hit : eqb start start ≡ true = grind (arith, nat_tests) in absurd (false≢true (sym (none start after) ∙ hit))
same_back net s journal x (Fault start why) none = refl
same_back net s journal x (Drop t cause why) none = refl

back_longer : (net : NetRows) (s : ℕ) (journal : List Entry) (x : Entry) (xs : List Entry) → ((m : ℕ) → length journal ≤ m → count_by (closes m) xs ≡ 0)
    → count_by (gives_back net s (journal ++ x ∷ [])) xs ≡ count_by (gives_back net s journal) xs
back_longer net s journal x [] none = refl
back_longer net s journal x (y ∷ ys) none =
    let head = same_back net s journal x y (λ m past. none_of (closes m y) (omega (arith, none m past, count_cons (closes m) y ys))) in
    omega (
      arith,
      ap one_if head,
      count_cons (gives_back net s (journal ++ x ∷ [])) y ys,
      count_cons (gives_back net s journal) y ys,
      back_longer net s journal x ys (λ m past. omega (arith, none m past, count_cons (closes m) y ys)),
    )

pub back_push : (net : NetRows) (s : ℕ) (journal : List Entry) (x : Entry) → ((m : ℕ) → length journal ≤ m → count_by (closes m) journal ≡ 0)
    → back net s (journal ++ x ∷ []) ≡ back net s journal + one_if (gives_back net s (journal ++ x ∷ []) x)
back_push net s journal x none = omega (arith, count_by_push (gives_back net s (journal ++ x ∷ [])) journal x, back_longer net s journal x journal none)

-- STARTS AT PLACES
abbrev pub starts_from : (ℕ → ℕ → Bool) → ℕ → List Entry → ℕ
starts_from test n xs = count_by (λ p. option_map_or (test p.0) (started p.1) false) (enumerate_from n xs)

pub from_cons : (test : ℕ → ℕ → Bool) (n : ℕ) (x : Entry) (xs : List Entry) → starts_from test n (x ∷ xs) ≡ one_if (option_map_or (test n) (started x) false) + starts_from test (n + 1) xs
from_cons test n x xs = count_cons (λ p. option_map_or (test p.0) (started p.1) false) (n, x) (enumerate_from (n + 1) xs)

from_push : (test : ℕ → ℕ → Bool) (n p : ℕ) (xs : List Entry) (x : Entry) → p ≡ n + length xs → starts_from test n (xs ++ x ∷ []) ≡ starts_from test n xs + one_if (option_map_or (test p) (started x) false)
from_push test n p [] x at = let same : p ≡ n = omega arith in omega (arith, from_cons test n x [], ap (λ k. one_if (option_map_or (test k) (started x) false)) same)
from_push test n p (y ∷ ys) x at = omega (arith, from_cons test n y (ys ++ x ∷ []), from_cons test n y ys, from_push test (n + 1) p ys x (omega arith))

at_some : (f g : ℕ → Bool) (o : Option ℕ) → ((u : ℕ) → f u ≡ g u) → option_map_or f o false ≡ option_map_or g o false
at_some f g None h = refl
at_some f g (Some u) h = h u

from_same : (test test' : ℕ → ℕ → Bool) (n : ℕ) (xs : List Entry) → ((k u : ℕ) → n ≤ k → test' k u ≡ test k u) → starts_from test' n xs ≡ starts_from test n xs
from_same test test' n [] same = refl
from_same test test' n (x ∷ xs) same =
    omega (arith, from_cons test n x xs, from_cons test' n x xs, ap one_if (at_some (test' n) (test n) (started x) (λ u. same n u (omega arith))), from_same test test' (n + 1) xs (λ k u le. same k u (omega arith)))

-- one place more passes
pub from_one : (test test' : ℕ → ℕ → Bool) (n i p t : ℕ) (xs : List Entry) → p ≡ n + i → ((k u : ℕ) → k ≢ p → test' k u ≡ test k u) → test p t ≡ false → start_at xs i ≡ Some t
    → starts_from test' n xs ≡ starts_from test n xs + one_if (test' p t)
from_one test test' n i p t [] place same off there = absurd (cc)
from_one test test' n zero p t (x ∷ xs) place same off there =
    let at : n ≡ p = omega arith in
    let a : option_map_or (test n) (started x) false ≡ false = ap (λ o. option_map_or (test n) o false) there ∙ ap (λ k. test k t) at ∙ off in
    let b : option_map_or (test' n) (started x) false ≡ test' p t = ap (λ o. option_map_or (test' n) o false) there ∙ ap (λ k. test' k t) at in
    omega (arith, from_cons test n x xs, from_cons test' n x xs, ap one_if a, ap one_if b, from_same test test' (n + 1) xs (λ k u le. same k u (λ z. omega arith)))
from_one test test' n (suc i) p t (x ∷ xs) place same off there =
    omega (arith, from_cons test n x xs, from_cons test' n x xs, ap one_if (at_some (test' n) (test n) (started x) (λ u. same n u (λ z. omega arith))), from_one test test' (n + 1) i p t xs (omega arith) same off there)

-- CLOSED TAKERS
pub and_same : (a b c d : Bool) → c ≡ d → a && b && c ≡ a && b && d
and_same a b c d same = ap (λ e. a && b && e) same

pub and_off : (a b : Bool) → a && b && false ≡ false
and_off true true = refl
and_off true false = refl
and_off false b = refl

pub and_on : (a b : Bool) → a && b && true ≡ a && b
and_on true true = refl
and_on true false = refl
and_on false b = refl

abbrev pub closed_test : NetRows → ℕ → List Entry → ℕ → ℕ → Bool
closed_test net s journal n t = takes net s t && not (puts net s t) && not (count_by (closes n) journal == 0)

closed_off : (net : NetRows) (s : ℕ) (journal : List Entry) (n t : ℕ) → count_by (closes n) journal ≡ 0 → closed_test net s journal n t ≡ false
closed_off net s journal n t none = and_same (takes net s t) (not (puts net s t)) _ false (ap (λ k. not (k == 0)) none) ∙ and_off (takes net s t) (not (puts net s t))

-- an entry that closes nothing
pub closed_still : (net : NetRows) (s : ℕ) (journal : List Entry) (x : Entry) → ((m : ℕ) → closes m x ≡ false) → ((m : ℕ) → length journal ≤ m → count_by (closes m) journal ≡ 0)
    → closed_takers net s (journal ++ x ∷ []) ≡ closed_takers net s journal
closed_still net s journal x none unclosed =
    let test = closed_test net s journal in let test' = closed_test net s (journal ++ x ∷ []) in
    let same : (k u : ℕ) → test' k u ≡ test k u = λ k u. and_same (takes net s u) (not (puts net s u)) _ _ (ap (λ c. not (c == 0)) (count_by_push_no (closes k) journal x (none k))) in
    omega (
      arith,
      from_push test' 0 (length journal) journal x (omega arith),
      from_same test test' 0 journal (λ k u le. same k u),
      ap one_if (off (started x) (λ u. same (length journal) u ∙ closed_off net s journal (length journal) u (unclosed (length journal) (omega arith)))),
    )
  where
    off : (o : Option ℕ) → ((u : ℕ) → closed_test net s (journal ++ x ∷ []) (length journal) u ≡ false) → option_map_or (closed_test net s (journal ++ x ∷ []) (length journal)) o false ≡ false
    off None h = refl
    off (Some u) h = h u

-- an entry that closes a start
pub closed_more : (net : NetRows) (s : ℕ) (journal : List Entry) (x : Entry) (m t : ℕ) → ((k : ℕ) → closes k x ≡ eqb m k) → started x ≡ None → start_at journal m ≡ Some t → count_by (closes m) journal ≡ 0
    → closed_takers net s (journal ++ x ∷ []) ≡ closed_takers net s journal + one_if (only_takes net s t)
closed_more net s journal x m t closing none there opened =
    let test = closed_test net s journal in let test' = closed_test net s (journal ++ x ∷ []) in
    let one = from_one test test' 0 m m t journal (omega arith) same_else (closed_off net s journal m t opened) there in
    omega (arith, one, from_push test' 0 (length journal) journal x (omega arith), ap (λ o. one_if (option_map_or (test' (length journal)) o false)) none, ap one_if on)
  where
    same_else : (k u : ℕ) → k ≢ m → closed_test net s (journal ++ x ∷ []) k u ≡ closed_test net s journal k u
    same_else k u other =
        let miss : eqb m k ≡ false = grind (arith, nat_tests) in
        and_same (takes net s u) (not (puts net s u)) _ _ (ap (λ c. not (c == 0)) (count_by_push_no (closes k) journal x (closing k ∙ miss)))

    on : closed_test net s (journal ++ x ∷ []) m t ≡ only_takes net s t
    on = let hit : eqb m m ≡ true = grind (arith, nat_tests) in
        let one : count_by (closes m) (journal ++ x ∷ []) ≡ 1 = omega (arith, count_by_push (closes m) journal x, ap one_if (closing m ∙ hit), opened) in
        and_same (takes net s t) (not (puts net s t)) _ true (ap (λ c. not (c == 0)) one) ∙ and_on (takes net s t) (not (puts net s t))

-- what would have been an over-release stays one
pub over_longer : (net : NetRows) (journal : List Entry) (x : Entry) (s m t : ℕ) → IsOverRelease net journal s m t → IsOverRelease net (journal ++ x ∷ []) s m t
over_longer net journal x s m t h =
    let n = h.1.0 in
    let same : take n journal ≡ take n (journal ++ x ∷ []) = sym (take-append-le n journal (x ∷ []) h.1.2) in
    (h.0, (n, h.1.1, omega (arith, h.1.2, length_push journal x), subst (λ j. closed_takers net s j + one_if (takes net s t) ≤ other_putters net s m j) same h.1.3))

-- RUNNING STARTS, after an entry that closes one
pub run_close : (journal : List Entry) (x : Entry) (start t : ℕ) (m s : ℕ) → ((k : ℕ) → closes k x ≡ eqb start k) → started x ≡ None → start < length journal → is_open journal start ≡ true → start_at journal start ≡ Some t
    → one_if (is_run (journal ++ x ∷ []) m s) + one_if (eqb start m && eqb t s) ≡ one_if (is_run journal m s)
run_close journal x start t m s closing none below opened there = by_place (cases_lt m (length journal)) (cases_eq start m)
  where
    by_place : (m < length journal) ⊎ (length journal ≤ m) → (start ≡ m) ⊎ (start ≢ m) → one_if (is_run (journal ++ x ∷ []) m s) + one_if (eqb start m && eqb t s) ≡ one_if (is_run journal m s)
    by_place (inl before) (inl same) =
        let hit : eqb start m ≡ true = grind (arith, nat_tests) in
        let opened_m : is_open journal m ≡ true = ap (is_open journal) (sym same) ∙ opened in
        let there_m : start_at journal m ≡ Some t = ap (start_at journal) (sym same) ∙ there in
        let closed : is_open (journal ++ x ∷ []) m ≡ false = is_open_push_below journal x m before ∙ rw (closing m, hit) (and_false (is_open journal m)) in
        rw (closed, opened_m, there_m, hit) (omega arith)
    by_place (inl before) (inr other) =
        let miss : eqb start m ≡ false = grind (arith, nat_tests) in
        let still : is_open (journal ++ x ∷ []) m ≡ is_open journal m = is_open_push_below journal x m before ∙ rw (closing m, miss) (and_true (is_open journal m)) in
        rw (still, start_at_push_below journal x m before, miss) (omega arith)
    by_place (inr after) placed =
        let miss : eqb start m ≡ false = grind (arith, nat_tests) in
        rw (miss, run_past journal m s after, past_or_last (cases_eq (length journal) m)) refl
      where
        past_or_last : (length journal ≡ m) ⊎ (length journal ≢ m) → is_run (journal ++ x ∷ []) m s ≡ false
        past_or_last (inl same) =
            let none_there : start_at (journal ++ x ∷ []) m ≡ None = ap (start_at (journal ++ x ∷ [])) (sym same) ∙ start_at_push_last journal x ∙ none in
            ap (λ o. (is_some o && (count_by (closes m) (journal ++ x ∷ []) == 0)) && option_map_or (λ u. u == s) o false) none_there
        past_or_last (inr other) = run_past (journal ++ x ∷ []) m s (omega (arith, length_push journal x))

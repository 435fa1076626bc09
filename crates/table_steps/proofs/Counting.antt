-- How often an edge is among those of a task, and what the counts of a journal are after one entry more.
use Rattle.std.proofs.Common.{◌≡◌, ◌≢◌, ◌⊎◌, inl, inr, ℕ, zero, suc, ◌+◌, ◌<◌, ◌≤◌, Bool, true, false, not, ◌&&◌, cond, eqb, List, [], ◌∷◌, ◌++◌, length, Option, Some, None, sym, refl, ap, ◌∙◌, arith, get_or}
use Rattle.std.specs.Prelude.{count_by, slice_get, ◌==◌, is_some}
use Rattle.std.specs.Option.{option_map_or, option_and_then}
use Rattle.std.proofs.lemmas.Bool.Decides.{nat_tests}
use Rattle.std.proofs.lemmas.Bool.{cases_eq, cases_lt, false≢true}
use Rattle.std.proofs.lemmas.List.{length_push}
use Rattle.std.proofs.lemmas.List.Sums.{sum_by-cons}
use Rattle.task_graph.specs.NetRows.{NetRows}
use Rattle.task_graph.specs.Net.{strong_in, is_weak_row, is_weak}
use Rattle.task_graph.specs.declared.net.EdgeRow.{EdgeRow}
use Rattle.journal_rules.specs.declared.entry.Cause.{Cause}
use Rattle.journal_rules.specs.declared.entry.Cause.TheVariants.{Source, Strong, Weak}
use Rattle.journal_rules.specs.declared.entry.Entry.{Entry}
use Rattle.journal_rules.specs.declared.entry.Entry.TheVariants.{Start, End}
use Rattle.journal_rules.specs.declared.entry.Part.{Part}
use Rattle.journal_rules.specs.Counts.{used, used_weak, uses, uses_any, is_strong, is_weak_at, started, start_at, is_open, closes}
use Rattle.journal_rules.specs.Calm.{used_at}
use Rattle.journal_rules.specs.DataRule.{edges_of}
use Rattle.journal_rules.proofs.Snoc.{count_by_push, is_open_push_below, start_at_push_last, start_at_push_below}
use Rattle.journal_rules.proofs.Tallying.{count_by_push_no, count_once, and_true, and_false}
use Rattle.journal_rules.proofs.NetLemmas.{any_place, counted_once}
use Rattle.table_steps.specs.inside.Duties.{is_run}
use Rattle.table_steps.specs.Giving.{one_if, times}

pub times_count : (e : ℕ) (es : List ℕ) → times e es ≡ count_by (λ g. g == e) es
times_count e [] = refl
times_count e (g ∷ gs) = ap (λ n. one_if (g == e) + n) (times_count e gs) ∙ sym (sum_by-cons (λ y. cond (y == e) 1 0) g gs)

pub times_append : (e : ℕ) (es fs : List ℕ) → times e (es ++ fs) ≡ times e es + times e fs
times_append e [] fs = omega arith
times_append e (g ∷ gs) fs = omega (arith, times_append e gs fs)

-- what is in a list at a place is in it at least once
pub times_at : (es : List ℕ) (k d : ℕ) → k < length es → 1 ≤ times (get_or es k d) es
times_at [] k d below = absurd (omega arith)
times_at (e ∷ es) zero d below = let hit : eqb e e ≡ true = grind (arith, nat_tests) in rw hit (omega arith)
times_at (e ∷ es) (suc k) d below = omega (arith, times_at es k d (omega arith))

-- whether an edge is strong and ends in a task
abbrev pub is_strong_into : NetRows → ℕ → ℕ → Bool
is_strong_into net t e = option_map_or (λ (r : EdgeRow). (r.to == t) && not (is_weak_row net r)) (slice_get net.edges e) false

-- a strong in-edge is once among those of its task, and any other edge not at all
pub times_strong_in : (net : NetRows) (t e : ℕ) → times e (strong_in net t) ≡ one_if (is_strong_into net t e)
times_strong_in net t e =
    times_count e (strong_in net t) ∙ count_once (λ g. g == e) (strong_in net t) (counted_once (λ (r : EdgeRow). (r.to == t) && not (is_weak_row net r)) net.edges e)
    ∙ ap one_if (any_place (λ (r : EdgeRow). (r.to == t) && not (is_weak_row net r)) e net.edges)

-- the tokens used at an edge, where both its counts grew
abbrev pub used_more : NetRows → ℕ → ℕ → (ℕ → ℕ) → ℕ
used_more net e a b = cond (is_weak net e) a (option_map_or (λ (r : EdgeRow). b r.to) (slice_get net.edges e) 0)

pub used_at_more : (net : NetRows) (e : ℕ) (old new : List Entry) (a : ℕ) (b : ℕ → ℕ) → used_weak e new ≡ used_weak e old + a → ((t : ℕ) → used t new ≡ used t old + b t)
    → used_at net e new ≡ used_at net e old + used_more net e a b
used_at_more net e old new a b weakly strongly = by_row (slice_get net.edges e)
  where
    by_weak : (w : Bool) (t : ℕ) → cond w (used_weak e new) (used t new) ≡ cond w (used_weak e old) (used t old) + cond w a (b t)
    by_weak true t = weakly
    by_weak false t = strongly t

    by_row : (row : Option EdgeRow) → cond (option_map_or (is_weak_row net) row false) (used_weak e new) (option_map_or (λ (r : EdgeRow). used r.to new) row 0)
        ≡ cond (option_map_or (is_weak_row net) row false) (used_weak e old) (option_map_or (λ (r : EdgeRow). used r.to old) row 0)
        + cond (option_map_or (is_weak_row net) row false) a (option_map_or (λ (r : EdgeRow). b r.to) row 0)
    by_row None = refl
    by_row (Some row) = by_weak (is_weak_row net row) row.to

-- the cause of a release is one that its task can have
abbrev pub CauseFits : NetRows → ℕ → Cause → Type 0
CauseFits net t Source = Unit {0}
CauseFits net t Strong = Unit {0}
CauseFits net t (Weak f) = is_weak net f ≡ true

pub eqb_sym : (a b : ℕ) → eqb a b ≡ eqb b a
eqb_sym a b = by_eq (cases_eq a b)
  where
    by_eq : (a ≡ b) ⊎ (a ≢ b) → eqb a b ≡ eqb b a
    by_eq (inl same) = grind (arith, nat_tests)
    by_eq (inr other) = grind (arith, nat_tests)

pub more_source : (net : NetRows) (e : ℕ) → used_more net e 0 (λ _. 0) ≡ 0
more_source net e = by_row (is_weak net e) (slice_get net.edges e)
  where
    by_row : (w : Bool) (row : Option EdgeRow) → ◌≡◌ {A = ℕ} (cond w 0 (option_map_or (λ (r : EdgeRow). 0) row 0)) 0
    by_row true row = refl
    by_row false None = refl
    by_row false (Some row) = refl

pub more_strong : (net : NetRows) (t e : ℕ) → used_more net e 0 (λ u. one_if (eqb t u)) ≡ one_if (is_strong_into net t e)
more_strong net t e = by_row (slice_get net.edges e)
  where
    by_weak : (w : Bool) (u : ℕ) → cond w 0 (one_if (eqb t u)) ≡ one_if (eqb u t && not w)
    by_weak true u = sym (ap one_if (and_false (eqb u t)))
    by_weak false u = ap one_if (eqb_sym t u ∙ sym (and_true (eqb u t)))

    by_row : (row : Option EdgeRow) → cond (option_map_or (is_weak_row net) row false) 0 (option_map_or (λ (r : EdgeRow). one_if (eqb t r.to)) row 0)
        ≡ one_if (option_map_or (λ (r : EdgeRow). (r.to == t) && not (is_weak_row net r)) row false)
    by_row None = refl
    by_row (Some row) = by_weak (is_weak_row net row) row.to

pub more_weak : (net : NetRows) (f e : ℕ) → is_weak net f ≡ true → used_more net e (one_if (eqb f e)) (λ _. 0) ≡ one_if (eqb f e)
more_weak net f e weak_f = by_eq (cases_eq f e)
  where
    by_row : (w : Bool) (k : ℕ) (row : Option EdgeRow) → (w ≡ false → k ≡ 0) → cond w k (option_map_or (λ (r : EdgeRow). 0) row 0) ≡ k
    by_row true k row none = refl
    by_row false k None none = sym (none refl)
    by_row false k (Some row) none = sym (none refl)

    by_eq : (f ≡ e) ⊎ (f ≢ e) → used_more net e (one_if (eqb f e)) (λ _. 0) ≡ one_if (eqb f e)
    by_eq (inl same) = by_row (is_weak net e) (one_if (eqb f e)) (slice_get net.edges e) (λ strong. absurd (false≢true (sym strong ∙ ap (is_weak net) (sym same) ∙ weak_f)))
    by_eq (inr other) = let miss : eqb f e ≡ false = grind (arith, nat_tests) in by_row (is_weak net e) (one_if (eqb f e)) (slice_get net.edges e) (λ _. ap one_if miss)

-- the tokens used at an edge, after a Start
pub used_at_start : (net : NetRows) (e t : ℕ) (cause : Cause) (ins : List Part) (journal : List Entry) → CauseFits net t cause
    → used_at net e (journal ++ Start t cause ins ∷ []) ≡ used_at net e journal + times e (edges_of net t cause)
used_at_start net e t Source ins journal fits = let x = Start t Source ins in
    used_at_more net e journal (journal ++ x ∷ []) 0 (λ _. 0) (count_by_push (uses_any (is_weak_at e)) journal x) (λ u. count_by_push (uses is_strong u) journal x ∙ ap (λ b. used u journal + one_if b) (and_false (eqb t u)))
    ∙ ap (λ n. used_at net e journal + n) (more_source net e)
used_at_start net e t Strong ins journal fits = let x = Start t Strong ins in
    used_at_more net e journal (journal ++ x ∷ []) 0 (λ u. one_if (eqb t u)) (count_by_push (uses_any (is_weak_at e)) journal x) (λ u. count_by_push (uses is_strong u) journal x ∙ ap (λ b. used u journal + one_if b) (and_true (eqb t u)))
    ∙ ap (λ n. used_at net e journal + n) (more_strong net t e ∙ sym (times_strong_in net t e))
used_at_start net e t (Weak f) ins journal fits = let x = Start t (Weak f) ins in
    used_at_more net e journal (journal ++ x ∷ []) (one_if (eqb f e)) (λ _. 0) (count_by_push (uses_any (is_weak_at e)) journal x) (λ u. count_by_push (uses is_strong u) journal x ∙ ap (λ b. used u journal + one_if b) (and_false (eqb t u)))
    ∙ ap (λ n. used_at net e journal + n) (more_weak net f e fits) ∙ omega arith

-- and after an End, which uses none
pub used_at_end : (net : NetRows) (e start : ℕ) (gives : List ℕ) (inner : Bool) (journal : List Entry) → used_at net e (journal ++ End start gives inner ∷ []) ≡ used_at net e journal
used_at_end net e start gives inner journal = let x = End start gives inner in
    used_at_more net e journal (journal ++ x ∷ []) 0 (λ _. 0) (count_by_push (uses_any (is_weak_at e)) journal x) (λ u. count_by_push (uses is_strong u) journal x) ∙ ap (λ n. used_at net e journal + n) (more_source net e) ∙ omega arith

-- past the end there is no Start
pub get_past : {X : Type 0} (xs : List X) (n : ℕ) → length xs ≤ n → slice_get xs n ≡ None
get_past [] n past = refl
get_past (x ∷ xs) zero past = absurd (omega arith)
get_past (x ∷ xs) (suc n) past = get_past xs n (omega arith)

pub run_past : (journal : List Entry) (m t : ℕ) → length journal ≤ m → is_run journal m t ≡ false
run_past journal m t past = let none_at = get_past journal m past in
    ap (λ o. (is_some (option_and_then started o) && (count_by (closes m) journal == 0)) && option_map_or (λ s. s == t) (option_and_then started o) false) none_at

-- the Starts that run, after a Start
pub run_start : (journal : List Entry) (t : ℕ) (cause : Cause) (ins : List Part) (m s : ℕ) → ((k : ℕ) → length journal ≤ k → count_by (closes k) journal ≡ 0)
    → one_if (is_run (journal ++ Start t cause ins ∷ []) m s) ≡ one_if (is_run journal m s) + one_if (eqb (length journal) m && eqb t s)
run_start journal t cause ins m s unclosed = by_place (cases_lt m (length journal)) (cases_eq (length journal) m)
  where
    x : Entry
    x = Start t cause ins

    by_place : (m < length journal) ⊎ (length journal ≤ m) → (length journal ≡ m) ⊎ (length journal ≢ m)
        → one_if (is_run (journal ++ x ∷ []) m s) ≡ one_if (is_run journal m s) + one_if (eqb (length journal) m && eqb t s)
    by_place (inl before) placed =
        let miss : eqb (length journal) m ≡ false = grind (arith, nat_tests) in
        rw (miss, is_open_push_below journal x m before ∙ and_true (is_open journal m), start_at_push_below journal x m before) (omega arith)
    by_place (inr after) (inl same) =
        let hit : eqb (length journal) m ≡ true = grind (arith, nat_tests) in
        let there : start_at (journal ++ x ∷ []) m ≡ Some t = ap (start_at (journal ++ x ∷ [])) (sym same) ∙ start_at_push_last journal x in
        let none : count_by (closes m) (journal ++ x ∷ []) ≡ 0 = count_by_push_no (closes m) journal x refl ∙ unclosed m after in
        rw (hit, run_past journal m s after, there, none) (omega arith)
    by_place (inr after) (inr other) =
        let miss : eqb (length journal) m ≡ false = grind (arith, nat_tests) in
        rw (miss, run_past journal m s after, run_past (journal ++ x ∷ []) m s (omega (arith, length_push journal x))) (omega arith)

pub is_one : (b : Bool) → 1 ≤ one_if b → b ≡ true
is_one true h = refl
is_one false h = absurd (omega arith)

-- the tokens used of a strong in-edge are the releases that its target used
pub used_at_strong : (net : NetRows) (e t : ℕ) (journal : List Entry) → is_strong_into net t e ≡ true → used_at net e journal ≡ used t journal
used_at_strong net e t journal into = by_row (slice_get net.edges e) into
  where
    by_tests : (b w : Bool) (u : ℕ) → (b ≡ true → u ≡ t) → b && not w ≡ true → cond w (used_weak e journal) (used u journal) ≡ used t journal
    by_tests true true u same h = absurd (false≢true h)
    by_tests true false u same h = ap (λ r. used r journal) (same refl)
    by_tests false w u same h = absurd (false≢true h)

    by_row : (row : Option EdgeRow) → option_map_or (λ (r : EdgeRow). (r.to == t) && not (is_weak_row net r)) row false ≡ true
        → cond (option_map_or (is_weak_row net) row false) (used_weak e journal) (option_map_or (λ (r : EdgeRow). used r.to journal) row 0) ≡ used t journal
    by_row None h = absurd (false≢true h)
    by_row (Some row) h = by_tests (row.to == t) (is_weak_row net row) row.to (λ is. grind (arith, nat_tests)) h

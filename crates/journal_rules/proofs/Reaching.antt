-- What a shape-legal journal is besides, after one entry more.
use Rattle.std.proofs.Common.{◌≡◌, ◌≢◌, ◌⊎◌, inl, inr, ℕ, zero, suc, ◌+◌, ◌<◌, ◌≤◌, Bool, true, false, not, ◌&&◌, ◌||◌, cond, eqb, List, [], ◌∷◌, ◌++◌, length, Option, Some, None, sym, refl, ap, ◌∙◌, subst, arith, get_or, IsTrue}
use Rattle.std.specs.Prelude.{count_by, slice_get, ◌==◌, is_some}
use Rattle.std.specs.Option.{option_map_or, option_and_then}
use Rattle.std.specs.List.{list_any, AllByRecursion, range_with_len}
use Rattle.std.proofs.lemmas.Bool.Decides.{nat_tests}
use Rattle.std.proofs.lemmas.Bool.{cases_eq, false≢true}
use Rattle.std.proofs.lemmas.List.Elements.{All-from_recursion, recursion_from_All}
use Rattle.std.proofs.lemmas.List.{length_push, append-nil, append_assoc}
use Rattle.std.proofs.lemmas.Option.{slice_get_within}
use Rattle.task_graph.specs.NetRows.{NetRows}
use Rattle.task_graph.specs.Net.{is_weak, is_weak_row, strong_in, IsNet}
use Rattle.task_graph.specs.declared.net.EdgeRow.{EdgeRow}
use Rattle.journal_rules.specs.declared.entry.Cause.{Cause}
use Rattle.journal_rules.specs.declared.entry.Cause.TheVariants.{Source, Strong, Weak}
use Rattle.journal_rules.specs.declared.entry.Entry.{Entry}
use Rattle.journal_rules.specs.declared.entry.Entry.TheVariants.{Start, End, Fault, Drop}
use Rattle.journal_rules.specs.Counts.{given, used, used_weak, uses, uses_any, is_strong, is_weak_at, started, is_open, closes}
use Rattle.journal_rules.specs.Entries.{EachAfterThese}
use Rattle.journal_rules.specs.ReleaseRule.{IsReleased}
use Rattle.journal_rules.specs.Calm.{used_at}
use Rattle.journal_rules.specs.DataRule.{edges_of}
use Rattle.journal_rules.specs.SemaphoreRule.{UnitsInBounds}
use Rattle.journal_rules.specs.ShapeLegal.{ShapeLegal, MayFollow}
use Rattle.journal_rules.specs.inside.Reached.{ClosesBelow, IsReached}
use Rattle.journal_rules.specs.inside.Releases.{IsUseOf, IsNoUse}
use Rattle.journal_rules.proofs.Snoc.{count_by_push, EachAfter-push}
use Rattle.journal_rules.proofs.Tallying.{given_push, count_by_push_no, and_false}
use Rattle.journal_rules.proofs.NetLemmas.{any_place}
use Rattle.journal_rules.proofs.ReleaseLaws.{start_use, drop_use, end_no_use, fault_no_use}

abbrev one_if : Bool → ℕ
one_if b = cond b 1 0

-- a fact of each number of a range
pub at_in_range : (P : ℕ → Type 0) (a n : ℕ) → AllByRecursion P (range_with_len a n) → (k : ℕ) → k < n → P (a + k)
at_in_range P a zero all k below = absurd (omega arith)
at_in_range P a (suc n) all zero below = subst P (omega arith) all.0
at_in_range P a (suc n) all (suc k) below = subst P (omega arith) (at_in_range P (a + 1) n all.1 k (omega arith))

pub each_in_range : (P : ℕ → Type 0) (a n : ℕ) → ((k : ℕ) → k < n → P (a + k)) → AllByRecursion P (range_with_len a n)
each_in_range P a zero each = tt
each_in_range P a (suc n) each = (subst P (omega arith) (each 0 (omega arith)), each_in_range P (a + 1) n (λ k below. subst P (omega arith) (each (suc k) (omega arith))))

pub at_below : (P : ℕ → Type 0) (n : ℕ) → AllByRecursion P (range_with_len 0 n) → (k : ℕ) → k < n → P k
at_below P n all k below = subst P (omega arith) (at_in_range P 0 n all k below)

pub each_below : (P : ℕ → Type 0) (n : ℕ) → ((k : ℕ) → k < n → P k) → AllByRecursion P (range_with_len 0 n)
each_below P n each = each_in_range P 0 n (λ k below. subst P (omega arith) (each k below))

-- equality of numbers goes both ways
eqb_both_ways : (a b : ℕ) → eqb a b ≡ eqb b a
eqb_both_ways a b = by_cases (cases_eq a b)
  where
    by_cases : (a ≡ b) ⊎ (a ≢ b) → eqb a b ≡ eqb b a
    by_cases (inl same) = rw same refl
    by_cases (inr other) =
        let one : eqb a b ≡ false = grind (arith, nat_tests) in
        let two : eqb b a ≡ false = grind (arith, nat_tests) in
        one ∙ sym two

-- the strong releases used of an edge's target, where the edge is there
abbrev target_used : Option EdgeRow → List Entry → ℕ
target_used row h = option_map_or (λ (r : EdgeRow). used r.to h) row 0

pub target_same : (row : Option EdgeRow) (h k : List Entry) → ((r : ℕ) → used r k ≡ used r h) → target_used row k ≡ target_used row h
target_same None h k same = refl
target_same (Some row) h k same = same row.to

or_false : (b : Bool) → b || false ≡ b
or_false true = refl
or_false false = refl

-- a token of an edge is used where the entry uses the edge
pub used_at_use : (net : NetRows) (e : ℕ) (h : List Entry) (x : Entry) (t : ℕ) (cause : Cause) → IsUseOf t cause x → IsReleased net h t cause → used_at net e (h ++ x ∷ []) ≡ used_at net e h + one_if (list_any (λ f. f == e) (edges_of net t cause))
used_at_use net e h x t Source using rule = by_weak (is_weak net e)
  where
    k : List Entry
    k = h ++ x ∷ []

    by_weak : (b : Bool) → cond b (used_weak e k) (target_used (slice_get net.edges e) k) ≡ cond b (used_weak e h) (target_used (slice_get net.edges e) h) + 0
    by_weak true = count_by_push_no (uses_any (is_weak_at e)) h x (using.by_any (is_weak_at e)) ∙ omega arith
    by_weak false = target_same (slice_get net.edges e) h k (λ r. count_by_push_no (uses is_strong r) h x (using.by_task is_strong r ∙ and_false (eqb t r))) ∙ omega arith
used_at_use net e h x t Strong using rule = by_row (slice_get net.edges e) ∙ ap (λ b. used_at net e h + one_if b) (sym (any_place (λ (row : EdgeRow). (row.to == t) && not (is_weak_row net row)) e net.edges))
  where
    k : List Entry
    k = h ++ x ∷ []

    by_weak : (row : EdgeRow) (b : Bool) → cond b (used_weak e k) (used row.to k) ≡ cond b (used_weak e h) (used row.to h) + one_if ((row.to == t) && not b)
    by_weak row true = count_by_push_no (uses_any (is_weak_at e)) h x (using.by_any (is_weak_at e)) ∙ rw (and_false (row.to == t)) (omega arith)
    by_weak row false = count_by_push (uses is_strong row.to) h x ∙ ap (λ b. used row.to h + one_if b) (using.by_task is_strong row.to ∙ ap (λ b. b && true) (eqb_both_ways t row.to))

    by_row : (row : Option EdgeRow) → cond (option_map_or (is_weak_row net) row false) (used_weak e k) (target_used row k)
        ≡ cond (option_map_or (is_weak_row net) row false) (used_weak e h) (target_used row h) + one_if (option_map_or (λ (r : EdgeRow). (r.to == t) && not (is_weak_row net r)) row false)
    by_row None = omega arith
    by_row (Some row) = by_weak row (is_weak_row net row)
used_at_use net e h x t (Weak f) using rule = by_weak (is_weak net e) refl
  where
    k : List Entry
    k = h ++ x ∷ []

    or_false : (b : Bool) → b || false ≡ b
    or_false true = refl
    or_false false = refl

    not_it : is_weak net e ≡ false → (f ≡ e) ⊎ (f ≢ e) → eqb f e ≡ false
    not_it strong (inl same) = absurd (false≢true (sym strong ∙ subst (λ g. IsTrue (is_weak net g)) same rule.0))
    not_it strong (inr other) = grind (arith, nat_tests)

    by_weak : (b : Bool) → is_weak net e ≡ b → cond b (used_weak e k) (target_used (slice_get net.edges e) k)
        ≡ cond b (used_weak e h) (target_used (slice_get net.edges e) h) + one_if ((f == e) || false)
    by_weak true is = count_by_push (uses_any (is_weak_at e)) h x ∙ ap (λ b. used_weak e h + one_if b) (using.by_any (is_weak_at e) ∙ sym (or_false (f == e)))
    by_weak false is =
        let miss = not_it is (cases_eq f e) in
        target_same (slice_get net.edges e) h k (λ r. count_by_push_no (uses is_strong r) h x (using.by_task is_strong r ∙ and_false (eqb t r))) ∙ rw miss (omega arith)

-- and of none where it uses no release
pub used_at_none : (net : NetRows) (e : ℕ) (h : List Entry) (x : Entry) → IsNoUse x → used_at net e (h ++ x ∷ []) ≡ used_at net e h
used_at_none net e h x none = by_weak (is_weak net e)
  where
    by_weak : (b : Bool) → cond b (used_weak e (h ++ x ∷ [])) (target_used (slice_get net.edges e) (h ++ x ∷ [])) ≡ cond b (used_weak e h) (target_used (slice_get net.edges e) h)
    by_weak true = count_by_push_no (uses_any (is_weak_at e)) h x (none.by_any (is_weak_at e))
    by_weak false = target_same (slice_get net.edges e) h (h ++ x ∷ []) (λ r. count_by_push_no (uses is_strong r) h x (none.by_task is_strong r))

-- each number of a list is among its numbers
any_at : (es : List ℕ) (k d : ℕ) → k < length es → list_any (λ g. g == get_or es k d) es ≡ true
any_at [] k d below = absurd (omega arith)
any_at (e ∷ es) zero d below = let hit : eqb e e ≡ true = grind (arith, nat_tests) in rw hit refl
any_at (e ∷ es) (suc k) d below = rw (any_at es k d (omega arith)) (or_true (eqb e (get_or es k d)))
  where
    or_true : (b : Bool) → b || true ≡ true
    or_true true = refl
    or_true false = refl

-- the tokens used of a strong in-edge are the releases that its target used
strong_target : (net : NetRows) (e t : ℕ) (h : List Entry) (row : Option EdgeRow) → option_map_or (λ (r : EdgeRow). (r.to == t) && not (is_weak_row net r)) row false ≡ true
    → cond (option_map_or (is_weak_row net) row false) (used_weak e h) (option_map_or (λ (r : EdgeRow). used r.to h) row 0) ≡ used t h
strong_target net e t h None passes = absurd (false≢true passes)
strong_target net e t h (Some row) passes = by_tests (row.to == t) (is_weak_row net row) (λ is. grind (arith, nat_tests)) passes
  where
    by_tests : (b w : Bool) → (b ≡ true → row.to ≡ t) → b && not w ≡ true → cond w (used_weak e h) (used row.to h) ≡ used t h
    by_tests true true same h2 = absurd (false≢true h2)
    by_tests true false same h2 = ap (λ r. used r h) (same refl)
    by_tests false w same h2 = absurd (false≢true h2)

-- what a release uses is held
pub released_held : (net : NetRows) (h : List Entry) (t : ℕ) (cause : Cause) → IsReleased net h t cause → AllByRecursion (λ e. used_at net e h < given net e h) (edges_of net t cause)
released_held net h t Source rule = tt
released_held net h t Strong rule = recursion_from_All (λ e. used_at net e h < given net e h) (strong_in net t) each
  where
    each : (k d : ℕ) → k < length (strong_in net t) → used_at net (get_or (strong_in net t) k d) h < given net (get_or (strong_in net t) k d) h
    each k d below =
        let e = get_or (strong_in net t) k d in
        let passes : option_map_or (λ (r : EdgeRow). (r.to == t) && not (is_weak_row net r)) (slice_get net.edges e) false ≡ true = sym (any_place (λ (r : EdgeRow). (r.to == t) && not (is_weak_row net r)) e net.edges) ∙ any_at (strong_in net t) k d below in
        let same : used_at net e h ≡ used t h = strong_target net e t h (slice_get net.edges e) passes in
        let held = All-from_recursion (λ f. used t h + 1 ≤ given net f h) (strong_in net t) rule.1 k d below in
        omega arith
released_held net h t (Weak e) rule = (rw rule.0 (omega (arith, rule.2)), tt)

-- an open Start stands
pub open_stands : (h : List Entry) (n : ℕ) → is_open h n ≡ true → n < length h
open_stands h n opened = by_item (slice_get h n) refl
  where
    by_item : (entry : Option Entry) → slice_get h n ≡ entry → n < length h
    by_item None is = absurd (false≢true (ap (λ o. is_some (option_and_then started o) && (count_by (closes n) h == 0)) (sym is) ∙ opened))
    by_item (Some entry) is = slice_get_within h n entry is

-- an edge that a list names has what each of them has
pub any_has : (P : ℕ → Type 0) (e : ℕ) (es : List ℕ) → AllByRecursion P es → list_any (λ f. f == e) es ≡ true → P e
any_has P e [] all found = absurd (false≢true found)
any_has P e (f ∷ es) all found = by_case (cases_eq f e) (λ h. any_has P e es all.1 h)
  where
    by_case : (f ≡ e) ⊎ (f ≢ e) → (list_any (λ g. g == e) es ≡ true → P e) → P e
    by_case (inl is) rest = subst P is all.0
    by_case (inr other) rest = let miss : eqb f e ≡ false = grind (arith, nat_tests) in rest (sym (rw miss refl) ∙ found)

-- no edge is used more often than it was given, after a use
held_use : (net : NetRows) (e : ℕ) (h : List Entry) (x : Entry) (t : ℕ) (cause : Cause) → IsUseOf t cause x → IsReleased net h t cause → used_at net e h ≤ given net e h → used_at net e (h ++ x ∷ []) ≤ given net e (h ++ x ∷ [])
held_use net e h x t cause using rule held = by_test (list_any (λ f. f == e) (edges_of net t cause)) refl
  where
    by_test : (b : Bool) → list_any (λ f. f == e) (edges_of net t cause) ≡ b → used_at net e (h ++ x ∷ []) ≤ given net e (h ++ x ∷ [])
    by_test true found =
        let less = any_has (λ f. used_at net f h < given net f h) e (edges_of net t cause) (released_held net h t cause rule) found in
        omega (arith, less, used_at_use net e h x t cause using rule, ap one_if found, given_push net e h x)
    by_test false missing = omega (arith, held, used_at_use net e h x t cause using rule, ap one_if missing, given_push net e h x)

-- a task without a strong in-edge still has used no strong release
unused_use : (net : NetRows) (h : List Entry) (x : Entry) (t : ℕ) (cause : Cause) → IsUseOf t cause x → IsReleased net h t cause → (r : ℕ) → strong_in net r ≡ [] → used r h ≡ 0 → used r (h ++ x ∷ []) ≡ 0
unused_use net h x t cause using rule r none was =
    count_by_push (uses is_strong r) h x ∙ ap (λ b. used r h + one_if b) (using.by_task is_strong r ∙ by_cause cause rule (cases_eq t r)) ∙ omega arith
  where
    by_cause : (c : Cause) → IsReleased net h t c → (t ≡ r) ⊎ (t ≢ r) → eqb t r && is_strong c ≡ false
    by_cause Source holds any = and_false (eqb t r)
    by_cause (Weak e) holds any = and_false (eqb t r)
    by_cause Strong holds (inl same) = absurd (holds.0 (ap (strong_in net) same ∙ none))
    by_cause Strong holds (inr other) = let miss : eqb t r ≡ false = grind (arith, nat_tests) in rw miss refl

-- what closes below a number closes below a greater one
closes_more : (n m : ℕ) (xs : List Entry) → n ≤ m → AllByRecursion (ClosesBelow n) xs → AllByRecursion (ClosesBelow m) xs
closes_more n m [] more all = tt
closes_more n m (x ∷ xs) more all = (one x all.0, closes_more n m xs more all.1)
  where
    one : (y : Entry) → ClosesBelow n y → ClosesBelow m y
    one (Start t cause ins) h = tt
    one (End start gives inner) h = omega arith
    one (Fault start why) h = omega arith
    one (Drop t cause why) h = tt

all_push : {X : Type 0} (P : X → Type 0) (xs : List X) (x : X) → AllByRecursion P xs → P x → AllByRecursion P (xs ++ x ∷ [])
all_push P [] x all last = (last, tt)
all_push P (y ∷ ys) x all last = (all.0, all_push P ys x all.1 last)

-- one entry more
pub reached_push : (net : NetRows) (limit : ℕ) (h : List Entry) (x : Entry) → IsReached net limit h → MayFollow net limit h x → IsReached net limit (h ++ x ∷ [])
reached_push net limit h x reached may = record {
  rows = reached.rows;
  legal = EachAfter-push (MayFollow net limit) h x reached.legal may;
  closes_below = all_push (ClosesBelow (length (h ++ x ∷ []))) h x (closes_more (length h) (length (h ++ x ∷ [])) h (omega (arith, length_push h x)) reached.closes_below) (closes x may);
  within = λ s below. at_below (UnitsInBounds net (h ++ x ∷ [])) (length net.sems) may.semaphore.within s below;
  held = λ e. held e x may;
  unused = λ t none. unused t none x may;
}
  where
    closes : (y : Entry) → MayFollow net limit h y → ClosesBelow (length (h ++ x ∷ [])) y
    closes (Start t cause ins) m = tt
    closes (End start gives inner) m = omega (arith, length_push h x, open_stands h start m.closing)
    closes (Fault start why) m = omega (arith, length_push h x, open_stands h start m.closing)
    closes (Drop t cause why) m = tt

    held : (e : ℕ) (y : Entry) → MayFollow net limit h y → used_at net e (h ++ y ∷ []) ≤ given net e (h ++ y ∷ [])
    held e (Start t cause ins) m = held_use net e h (Start t cause ins) t cause (start_use t cause ins) m.release (reached.held e)
    held e (End start gives inner) m = omega (arith, reached.held e, used_at_none net e h (End start gives inner) (end_no_use start gives inner), given_push net e h (End start gives inner))
    held e (Fault start why) m = omega (arith, reached.held e, used_at_none net e h (Fault start why) (fault_no_use start why), given_push net e h (Fault start why))
    held e (Drop t cause why) m = held_use net e h (Drop t cause why) t cause (drop_use t cause why) m.release (reached.held e)

    unused : (r : ℕ) → strong_in net r ≡ [] → (y : Entry) → MayFollow net limit h y → used r (h ++ y ∷ []) ≡ 0
    unused r none (Start t cause ins) m = unused_use net h (Start t cause ins) t cause (start_use t cause ins) m.release r none (reached.unused r none)
    unused r none (End start gives inner) m = count_by_push_no (uses is_strong r) h (End start gives inner) refl ∙ reached.unused r none
    unused r none (Fault start why) m = count_by_push_no (uses is_strong r) h (Fault start why) refl ∙ reached.unused r none
    unused r none (Drop t cause why) m = unused_use net h (Drop t cause why) t cause (drop_use t cause why) m.release r none (reached.unused r none)

-- the empty journal
pub reached_empty : (net : NetRows) (limit : ℕ) → IsNet net → IsReached net limit []
reached_empty net limit rows = record {
  rows = rows;
  legal = tt;
  closes_below = tt;
  within = λ s below. (omega arith, omega arith);
  held = λ e. by_weak e (is_weak net e) (slice_get net.edges e);
  unused = λ t none. refl;
}
  where
    by_weak : (e : ℕ) (b : Bool) (row : Option EdgeRow) → cond b (used_weak e []) (target_used row []) ≤ given net e []
    by_weak e true row = omega arith
    by_weak e false None = omega arith
    by_weak e false (Some row) = omega arith

-- each shape-legal journal
reached_from : (net : NetRows) (limit : ℕ) (before xs : List Entry) → EachAfterThese (MayFollow net limit) before xs → IsReached net limit before → IsReached net limit (before ++ xs)
reached_from net limit before [] each reached = subst (IsReached net limit) (sym (append-nil before)) reached
reached_from net limit before (x ∷ xs) each reached =
    subst (IsReached net limit) (append_assoc before (x ∷ []) xs) (reached_from net limit (before ++ x ∷ []) xs each.1 (reached_push net limit before x reached each.0))

pub reached_legal : (net : NetRows) (limit : ℕ) (h : List Entry) → IsNet net → ShapeLegal net limit h → IsReached net limit h
reached_legal net limit h rows legal = reached_from net limit [] h legal (reached_empty net limit rows)

-- A turn that is parked, and what is woken in place of the units that it puts back.
use Rattle.std.proofs.Common.{◌≡◌, ℕ, zero, suc, ◌+◌, ◌-◌, ◌<◌, ◌≤◌, Bool, true, false, ◌||◌, cond, List, [], ◌∷◌, ◌++◌, length, take, drop, append_assoc, Option, Some, None, refl, sym, ap, ◌∙◌, subst, arith, get_or}
use Rattle.std.specs.Prelude.{◌==◌, slice_get, IsTrue, IsSomeAnd, All}
use Rattle.std.specs.List.{AllByRecursion, list_any}
use Rattle.std.proofs.lemmas.Bool.{false≢true}
use Rattle.std.proofs.lemmas.Bool.Decides.{nat_tests}
use Rattle.std.proofs.lemmas.List.{length-append, length-drop, length-take-le, take_all}
use Rattle.std.proofs.lemmas.List.Elements.{All-append, recursion_from_All}
use Rattle.std.proofs.lemmas.Option.{slice_get-get_or}
use Rattle.task_graph.specs.NetRows.{NetRows}
use Rattle.journal_rules.specs.SemaphoreRule.{max_of, takes}
use Rattle.join_tables.specs.States.{FreshState, TableState, TurnState, turn_with}
use Rattle.semaphore_turns.specs.Semaphores.{taken_by}
use Rattle.semaphore_turns.specs.HeldUnits.{FoundNone, LacksUnit}
use Rattle.semaphore_turns.specs.WaitingTurns.{WaitsAt}
use Rattle.semaphore_turns.specs.WokenTurns.{WaitedFor, WakesAtMost}
use Rattle.semaphore_turns.specs.YardTurns.{passed_over}
use Rattle.semaphore_turns.proofs.YardReleases.{passed_few}
use Rattle.semaphore_turns.proofs.UnitCounts.{listed_at, takes_is}

pub lacks_within : (net : NetRows) (place : ℕ) (turn : TurnState) → LacksUnit net place turn → place < length (taken_by net turn.task)
lacks_within net place turn lacks = by_item (slice_get (taken_by net turn.task) place) refl lacks.none
  where
    within : (xs : List ℕ) (i s : ℕ) → slice_get xs i ≡ Some s → i < length xs
    within [] i s is = absurd (cc)
    within (x ∷ xs) zero s is = omega arith
    within (x ∷ xs) (suc i) s is = omega (arith, within xs i s is)

    by_item : (o : Option ℕ) → slice_get (taken_by net turn.task) place ≡ o → IsSomeAnd o (λ sem. FoundNone net sem turn) → place < length (taken_by net turn.task)
    by_item None is none = absurd none
    by_item (Some s) is none = within (taken_by net turn.task) place s is

pub parked_for : (table : TableState) (net : NetRows) (turn turn' : TurnState) (xs : List ℕ) (place : ℕ) → net ≡ table.net → turn.table ≡ table.table → turn.refused ≡ None → LacksUnit net place turn → xs ≡ taken_by net turn.task → turn' ≡ turn_with turn.table turn.task turn.cause turn.refused [] turn.found
    → (sem : ℕ) → sem ≡ get_or xs place 0 → WaitsAt turn' table sem × FoundNone table.net sem turn'
parked_for table net turn turn' xs place net_is table_is unrefused lacks list is sem sem_is = (
  record {
    table_is = ap (λ (t : TurnState). t.table) is ∙ table_is;
    refused = ap (λ (t : TurnState). t.refused) is ∙ unrefused;
    held = ap (λ (t : TurnState). t.held) is;
    takes = (λ k. takes (sym net_is k) sem (ap (λ (t : TurnState). t.task) is k)) ∙ ap (λ s. takes net s turn.task) there ∙ sym (takes_is net turn.task (get_or (taken_by net turn.task) place 0)) ∙ listed_at (taken_by net turn.task) place 0 below;
  },
  subst (λ n. FoundNone n sem turn') net_is (subst (λ found. IsSomeAnd (slice_get found 0) (λ n. max_of net sem ≤ n)) (sym (ap (λ (t : TurnState). t.found) is)) (subst (λ s. FoundNone net s turn) (sym there) found)),
)
  where
    below : place < length (taken_by net turn.task)
    below = lacks_within net place turn lacks

    there : sem ≡ get_or (taken_by net turn.task) place 0
    there = sem_is ∙ ap (λ l. get_or l place 0) list

    found : FoundNone net (get_or (taken_by net turn.task) place 0) turn
    found = subst (λ o. IsSomeAnd o (λ s. FoundNone net s turn)) (slice_get-get_or (taken_by net turn.task) place 0 below) lacks.none

-- what is true of a front of a list
any_front : (test : ℕ → Bool) (n : ℕ) (xs : List ℕ) → IsTrue (list_any test (take n xs)) → IsTrue (list_any test xs)
any_front test zero xs is = absurd (false≢true is)
any_front test (suc n) [] is = is
any_front test (suc n) (x ∷ xs) is = by_first (test x) (any_front test n xs) is
  where
    by_first : (b : Bool) → (IsTrue (list_any test (take n xs)) → IsTrue (list_any test xs)) → IsTrue (b || list_any test (take n xs)) → IsTrue (b || list_any test xs)
    by_first true rest _ = refl
    by_first false rest is = rest is

all_front : (P : ℕ → Type 0) (n : ℕ) (xs : List ℕ) → AllByRecursion P xs → AllByRecursion P (take n xs)
all_front P zero xs all = tt
all_front P (suc n) [] all = tt
all_front P (suc n) (x ∷ xs) all = (all.0, all_front P n xs all.1)

pub front_in_range : (n m place : ℕ) (xs : List ℕ) → All (λ s. s < n) xs → n ≡ m → AllByRecursion (λ s. s < m) (take place xs)
front_in_range n m place xs all same = subst (λ k. AllByRecursion (λ s. s < k) (take place xs)) same (all_front (λ s. s < n) place xs (recursion_from_All (λ s. s < n) xs all))

all_later : (P : ℕ → Type 0) (n : ℕ) (xs : List ℕ) → AllByRecursion P xs → AllByRecursion P (drop n xs)
all_later P zero xs all = all
all_later P (suc n) [] all = tt
all_later P (suc n) (x ∷ xs) all = all_later P n xs all.1

-- the rest of a list, as a slice has it
pub rest_of : (n : ℕ) (xs : List ℕ) → take (length xs - n) (drop n xs) ≡ drop n xs
rest_of n xs = take_all (length xs - n) (drop n xs) (omega (arith, length-drop n xs))

pub later_in_range : (n m i : ℕ) (xs : List ℕ) → All (λ s. s < n) xs → n ≡ m → AllByRecursion (λ s. s < m) (drop i xs)
later_in_range n m i xs all same = subst (λ k. AllByRecursion (λ s. s < k) (drop i xs)) same (all_later (λ s. s < n) i xs (recursion_from_All (λ s. s < n) xs all))

or_left : (a b : Bool) → a ≡ true → IsTrue (a || b)
or_left true b _ = refl
or_left false b is = absurd (false≢true is)

or_right : (a b : Bool) → b ≡ true → IsTrue (a || b)
or_right true b _ = refl
or_right false b is = is

any_later : (test : ℕ → Bool) (n : ℕ) (xs : List ℕ) → IsTrue (list_any test (drop n xs)) → IsTrue (list_any test xs)
any_later test zero xs is = is
any_later test (suc n) [] is = is
any_later test (suc n) (x ∷ xs) is = or_right (test x) (list_any test xs) (any_later test n xs is)

any_equal : (test : ℕ → Bool) (sem : ℕ) (sems : List ℕ) → IsTrue (list_any (λ s. s == sem) sems) → IsTrue (test sem) → IsTrue (list_any test sems)
any_equal test sem [] has it = has
any_equal test sem (s ∷ sems) has it = by_first (s == sem) refl (λ more. any_equal test sem sems more it) has
  where
    by_first : (b : Bool) → (s == sem) ≡ b → (IsTrue (list_any (λ z. z == sem) sems) → IsTrue (list_any test sems)) → IsTrue (b || list_any (λ z. z == sem) sems) → IsTrue (test s || list_any test sems)
    by_first true is more _ = let same : s ≡ sem = grind (arith, nat_tests) in or_left (test s) (list_any test sems) (ap test same ∙ it)
    by_first false is more rest = or_right (test s) (list_any test sems) (more rest)

any_passed : (test : ℕ → Bool) (sems : List ℕ) (woken_for : Option ℕ) → IsTrue (list_any test (passed_over sems woken_for)) → IsTrue (list_any test sems)
any_passed test sems None is = absurd (false≢true is)
any_passed test sems (Some sem) is = by_test (list_any (λ s. s == sem) sems) refl is
  where
    alone : (b : Bool) → IsTrue (b || false) → IsTrue b
    alone true is = refl
    alone false is = is

    by_test : (b : Bool) → list_any (λ s. s == sem) sems ≡ b → IsTrue (list_any test (cond b (sem ∷ []) [])) → IsTrue (list_any test sems)
    by_test true has one = any_equal test sem sems has (alone (test sem) one)
    by_test false has one = absurd (false≢true one)

-- what was woken for the units that were put back, and then for one that was passed on
pub wakes_parked : (table home later : TableState) (xs ys : List ℕ) (place : ℕ) (woken_for : Option ℕ) (before between after : List FreshState) → home ≡ table → later ≡ table → xs ≡ ys → place < length xs → WakesAtMost home (take place xs) (length (take place xs)) before between
    → WakesAtMost later (passed_over (drop (place + 1) xs) woken_for) (length (passed_over (drop (place + 1) xs) woken_for)) between after → WakesAtMost table ys (length ys) before after
wakes_parked table home later xs ys place woken_for before between after home_is later_is list within one two = record {
  woken = one.woken ++ two.woken;
  after_is = two.after_is ∙ ap (λ l. l ++ two.woken) one.after_is ∙ append_assoc before one.woken two.woken;
  waited = All-append (WaitedFor table ys) one.woken two.woken (λ k d below. first (get_or one.woken k d) (one.waited k d below)) (λ k d below. second (get_or two.woken k d) (two.waited k d below));
  few = omega (arith, one.few, two.few, length-take-le place xs (omega (arith, within)), within, ap length list, passed_few (drop (place + 1) xs) woken_for, length-append one.woken two.woken);
}
  where
    of_table : (at : TableState) → at ≡ table → (sems : List ℕ) (release : FreshState) → ((test : ℕ → Bool) → IsTrue (list_any test sems) → IsTrue (list_any test xs)) → WaitedFor at sems release → WaitedFor table ys release
    of_table at at_is sems release among waited = record {
      table_is = waited.table_is ∙ ap (λ (t : TableState). t.table) at_is;
      takes = subst (λ (t : TableState). IsTrue (list_any (λ sem. takes t.net sem release.task) ys)) at_is (subst (λ l. IsTrue (list_any (λ sem. takes at.net sem release.task) l)) list (among (λ sem. takes at.net sem release.task) waited.takes));
    }

    first : (release : FreshState) → WaitedFor home (take place xs) release → WaitedFor table ys release
    first release = of_table home home_is (take place xs) release (λ test. any_front test place xs)

    second : (release : FreshState) → WaitedFor later (passed_over (drop (place + 1) xs) woken_for) release → WaitedFor table ys release
    second release = of_table later later_is (passed_over (drop (place + 1) xs) woken_for) release (λ test is. any_later test (place + 1) xs (any_passed test (drop (place + 1) xs) woken_for is))

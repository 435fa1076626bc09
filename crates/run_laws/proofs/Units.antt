-- Where each task puts just what it takes, no run wants for a unit and none gives back one that isn't out.
use Rattle.std.proofs.Common.{◌≡◌, ◌≢◌, ◌⊎◌, inl, inr, ℕ, ◌<◌, ◌≤◌, Bool, true, false, not, ◌&&◌, cond, eqb, List, [], ◌∷◌, ◌++◌, length, take, Option, Some, None, sym, refl, ap, ◌∙◌, arith}
use Rattle.std.specs.Prelude.{count_by, sum_by, IsSomeAnd, ◌==◌}
use Rattle.std.specs.Option.{option_map_or}
use Rattle.std.specs.List.{AllByRecursion, range_with_len, enumerate_from}
use Rattle.std.proofs.lemmas.Bool.Decides.{nat_tests}
use Rattle.std.proofs.lemmas.Bool.{cases_eq, false≢true}
use Rattle.std.proofs.lemmas.List.Sums.{sum_by-cons}
use Rattle.task_graph.specs.NetRows.{NetRows}
use Rattle.journal_rules.specs.declared.entry.Why.{Why}
use Rattle.journal_rules.specs.declared.entry.Why.TheVariants.{Long, Wide, Unmet, Inner, OverRelease}
use Rattle.journal_rules.specs.declared.entry.DropWhy.{DropWhy}
use Rattle.journal_rules.specs.declared.entry.DropWhy.TheVariants.{Halted, Limit, Stuck}
use Rattle.journal_rules.specs.declared.entry.Entry.{Entry}
use Rattle.journal_rules.specs.declared.entry.Entry.TheVariants.{Start, End, Fault, Drop}
use Rattle.journal_rules.specs.Counts.{start_at, started, is_open, is_fault, faults}
use Rattle.journal_rules.specs.SemaphoreRule.{takes, puts, taken, back, gives_back, IsOverRelease, other_putters}
use Rattle.journal_rules.specs.HaltLimitStuckRule.{is_stuck, MayBeStuck}
use Rattle.journal_rules.specs.ShapeLegal.{ShapeLegal, MayFollow}
use Rattle.journal_rules.specs.Entries.{EachAfter, EachAfterThese}
use Rattle.journal_rules.proofs.Tallying.{count_by_push_no, count_by_push_yes}
use Rattle.journal_rules.proofs.Reaching.{at_below}
use Rattle.run_laws.specs.Graphs.{Returns}
use Rattle.run_laws.specs.Ends.{is_task}
use Rattle.run_laws.proofs.Lists.{count_none}
use Rattle.journal_rules.specs.declared.entry.Cause.{Cause}
use Rattle.run_laws.specs.Steady.{Steady, StartRule}
use Rattle.run_laws.proofs.Along.{along, both, each_front}
use Rattle.run_laws.proofs.Phases.{Phase, idle, busy, begins, ends_one, faults_one, and_right}
use Rattle.run_laws.proofs.Legally.{Placed, placed_along}
use Rattle.run_laws.proofs.Faults.{is_own_fault}
use Rattle.run_laws.proofs.Tasks.{sum_same, sum_zero, pick, count_tasks, InTasks, in_tasks, start_in}
use Rattle.run_laws.proofs.Limits.{NoUnitTrouble}

abbrev one_if : Bool → ℕ
one_if b = cond b 1 0

-- a test of one task, over all tasks
pick_one : (w : ℕ → Bool) (task n : ℕ) → task < n → sum_by (λ t. one_if (w t && eqb task t)) (range_with_len 0 n) ≡ one_if (w task)
pick_one w task n below = by_test (w task) refl
  where
    here : (t : ℕ) (c : Bool) → w task ≡ c → one_if (w t && eqb task t) ≡ one_if (c && eqb task t)
    here t c is = by_place (cases_eq task t)
      where
        by_place : (task ≡ t) ⊎ (task ≢ t) → one_if (w t && eqb task t) ≡ one_if (c && eqb task t)
        by_place (inl same) = ap (λ b. one_if (b && eqb task t)) (ap w (sym same) ∙ is)
        by_place (inr other) =
            let miss : eqb task t ≡ false = grind (arith, nat_tests) in
            ap (λ b. one_if (w t && b)) miss ∙ none (w t) ∙ sym (ap (λ b. one_if (c && b)) miss ∙ none c)
          where
            none : (b : Bool) → one_if (b && false) ≡ 0
            none true = refl
            none false = refl

    by_test : (c : Bool) → w task ≡ c → sum_by (λ t. one_if (w t && eqb task t)) (range_with_len 0 n) ≡ one_if (w task)
    by_test true is = sum_same (λ t. one_if (w t && eqb task t)) (λ t. one_if (eqb task t)) (λ t. here t true is) (range_with_len 0 n) ∙ pick task n below ∙ sym (ap one_if is)
    by_test false is = sum_zero (λ t. one_if (w t && eqb task t)) (λ t. here t false is) (range_with_len 0 n) ∙ sym (ap one_if is)

no_sum : (n : ℕ) (w : ℕ → Bool) → 0 ≡ sum_by (λ t. one_if (w t && false)) (range_with_len 0 n)
no_sum n w = sym (sum_zero (λ t. one_if (w t && false)) (λ t. none (w t)) (range_with_len 0 n))
  where
    none : (b : Bool) → one_if (b && false) ≡ 0
    none true = refl
    none false = refl

-- the units that were taken and those that are back, task by task
taken_tasks : (net : NetRows) (s : ℕ) (b : List Entry) → InTasks net b → taken net s b ≡ sum_by (λ t. count_by (λ x. takes net s t && begins t x) b) (range_with_len 0 (length net.tasks))
taken_tasks net s b all = count_tasks (λ x. option_map_or (takes net s) (started x) false) (λ t x. takes net s t && begins t x) (length net.tasks) b (each b all)
  where
    Split : Entry → Type 0
    Split x = one_if (option_map_or (takes net s) (started x) false) ≡ sum_by (λ t. one_if (takes net s t && begins t x)) (range_with_len 0 (length net.tasks))

    by_entry : (x : Entry) → ((t : ℕ) → started x ≡ Some t → t < length net.tasks) → Split x
    by_entry (Start task cause ins) in_range = sym (pick_one (takes net s) task (length net.tasks) (in_range task refl))
    by_entry (End start gives inner) in_range = no_sum (length net.tasks) (takes net s)
    by_entry (Fault start why) in_range = no_sum (length net.tasks) (takes net s)
    by_entry (Drop task cause why) in_range = no_sum (length net.tasks) (takes net s)

    each : (c : List Entry) → AllByRecursion (λ x. (t : ℕ) → started x ≡ Some t → t < length net.tasks) c → AllByRecursion Split c
    each [] h = tt
    each (x ∷ c) h = (by_entry x h.0, each c h.1)

-- a unit given back, by the tasks of the Starts
abbrev returns : NetRows → ℕ → (ℕ → Option ℕ) → Entry → Bool
returns net s at (Start task cause ins) = false
returns net s at (End start gives inner) = option_map_or (puts net s) (at start) false
returns net s at (Fault start why) = false
returns net s at (Drop task cause why) = false

back_tasks : (net : NetRows) (s : ℕ) (at : ℕ → Option ℕ) (b : List Entry) → ((n t : ℕ) → at n ≡ Some t → t < length net.tasks)
    → count_by (returns net s at) b ≡ sum_by (λ t. count_by (λ x. puts net s t && ends_one at t x) b) (range_with_len 0 (length net.tasks))
back_tasks net s at b in_range = count_tasks (returns net s at) (λ t x. puts net s t && ends_one at t x) (length net.tasks) b (each b)
  where
    Split : Entry → Type 0
    Split x = one_if (returns net s at x) ≡ sum_by (λ t. one_if (puts net s t && ends_one at t x)) (range_with_len 0 (length net.tasks))

    by_start : (o : Option ℕ) → ((t : ℕ) → o ≡ Some t → t < length net.tasks) → one_if (option_map_or (puts net s) o false) ≡ sum_by (λ t. one_if (puts net s t && is_task t o)) (range_with_len 0 (length net.tasks))
    by_start None below = no_sum (length net.tasks) (puts net s)
    by_start (Some p) below = sym (pick_one (puts net s) p (length net.tasks) (below p refl))

    by_entry : (x : Entry) → Split x
    by_entry (Start task cause ins) = no_sum (length net.tasks) (puts net s)
    by_entry (End start gives inner) = by_start (at start) (in_range start)
    by_entry (Fault start why) = no_sum (length net.tasks) (puts net s)
    by_entry (Drop task cause why) = no_sum (length net.tasks) (puts net s)

    each : (c : List Entry) → AllByRecursion Split c
    each [] = tt
    each (x ∷ c) = (by_entry x, each c)

-- a count of what passes a test of the task besides
count_guard : (c : Bool) (p : Entry → Bool) (b : List Entry) → count_by (λ x. c && p x) b ≡ cond c (count_by p b) 0
count_guard true p b = refl
count_guard false p b = count_none (λ x. false) (λ x. refl) b

-- where nothing runs and nothing has faulted, all units that were taken are back
all_back : (net : NetRows) (at : ℕ → Option ℕ) (b : List Entry) → Returns net → InTasks net b → ((n t : ℕ) → at n ≡ Some t → t < length net.tasks) → ((t : ℕ) → count_by (begins t) b ≡ count_by (ends_one at t) b) → (s : ℕ) → taken net s b ≡ count_by (returns net s at) b
all_back net at b gives all in_range same s =
    taken_tasks net s b all ∙ sum_same _ _ each (range_with_len 0 (length net.tasks)) ∙ sym (back_tasks net s at b in_range)
  where
    each : (t : ℕ) → count_by (λ x. takes net s t && begins t x) b ≡ count_by (λ x. puts net s t && ends_one at t x) b
    each t =
        count_guard (takes net s t) (begins t) b ∙ ap (λ k. cond (takes net s t) k 0) (same t) ∙ ap (λ c. cond c (count_by (ends_one at t) b) 0) (gives.same s t)
        ∙ sym (count_guard (puts net s t) (ends_one at t) b)

-- `back` looks up the Starts in the journal so far
back_same : (net : NetRows) (s : ℕ) (f g : ℕ → Option ℕ) (b : List Entry) → AllByRecursion (λ x. returns net s f x ≡ returns net s g x) b → count_by (returns net s f) b ≡ count_by (returns net s g) b
back_same net s f g [] all = refl
back_same net s f g (x ∷ b) all = omega (arith, sum_by-cons (λ y. one_if (returns net s f y)) x b, sum_by-cons (λ y. one_if (returns net s g y)) x b, ap one_if all.0, back_same net s f g b all.1)

gives_back_is : (net : NetRows) (s : ℕ) (b c : List Entry) → AllByRecursion (λ x. gives_back net s b x ≡ returns net s (start_at b) x) c
gives_back_is net s b [] = tt
gives_back_is net s b (Start task cause ins ∷ c) = (refl, gives_back_is net s b c)
gives_back_is net s b (End start gives inner ∷ c) = (refl, gives_back_is net s b c)
gives_back_is net s b (Fault start why ∷ c) = (refl, gives_back_is net s b c)
gives_back_is net s b (Drop task cause why ∷ c) = (refl, gives_back_is net s b c)

count_same : (p q : Entry → Bool) (c : List Entry) → AllByRecursion (λ x. p x ≡ q x) c → count_by p c ≡ count_by q c
count_same p q [] all = refl
count_same p q (x ∷ c) all = omega (arith, sum_by-cons (λ y. one_if (p y)) x c, sum_by-cons (λ y. one_if (q y)) x c, ap one_if all.0, count_same p q c all.1)

-- so no Drop is for want of a unit
never_stuck : (net : NetRows) (b : List Entry) (t s : ℕ) → Returns net → InTasks net b → Placed (start_at b) b → s < length net.sems → MayBeStuck net b t s → ⊥
never_stuck net b t s gives all placed in_sems stuck = stuck.no_unit (omega (arith, gives.units s in_sems, is_back, all_back net (start_at b) b gives all (λ n u is. start_in net b n u all is) same s))
  where
    is_back : back net s b ≡ count_by (returns net s (start_at b)) b
    is_back = count_same (gives_back net s b) (returns net s (start_at b)) b (gives_back_is net s b b)

    none_faulted : (u : ℕ) → count_by (faults_one (start_at b) u) b ≤ faults b
    none_faulted u = less b
      where
        one_less : (x : Entry) → one_if (faults_one (start_at b) u x) ≤ one_if (is_fault x)
        one_less (Start task cause ins) = omega arith
        one_less (End start gives2 inner) = omega arith
        one_less (Fault start why) = at_most (is_task u (start_at b start))
          where
            at_most : (c : Bool) → one_if c ≤ 1
            at_most true = omega arith
            at_most false = omega arith
        one_less (Drop task cause why) = omega arith

        less : (c : List Entry) → count_by (faults_one (start_at b) u) c ≤ count_by is_fault c
        less [] = omega arith
        less (x ∷ c) = omega (arith, sum_by-cons (λ y. one_if (faults_one (start_at b) u y)) x c, sum_by-cons (λ y. one_if (is_fault y)) x c, one_less x, less c)

    same : (u : ℕ) → count_by (begins u) b ≡ count_by (ends_one (start_at b) u) b
    same u = by_phase (placed.phases u)
      where
        by_phase : Phase (start_at b) u b → count_by (begins u) b ≡ count_by (ends_one (start_at b) u) b
        by_phase (idle all_closed rests) = omega (arith, all_closed, none_faulted u, stuck.no_fault)
        by_phase (busy n one is) =
            let opened : is_open b n ≡ true = and_right (is_task u (start_at b n)) _ is.runs in
            absurd (false≢true (sym (at_below (λ m. is_open b m ≡ false) (length b) stuck.none_open n is.below) ∙ opened))

-- and no Fault is for a unit that isn't out
never_over : (net : NetRows) (b : List Entry) (place s t : ℕ) → Returns net → IsOverRelease net b s place t → ⊥
never_over net b place s t gives over = absurd (omega (arith, over.1.3, none, own))
  where
    fails : (c d : Bool) → c ≡ d → (m : Bool) → d && not c && m ≡ false
    fails true true same m = refl
    fails true false same m = refl
    fails false true same m = absurd (false≢true same)
    fails false false same m = refl

    by_start : (n : ℕ) (o : Option ℕ) → option_map_or (λ u. puts net s u && not (takes net s u) && not (n == place)) o false ≡ false
    by_start n None = refl
    by_start n (Some u) = fails (takes net s u) (puts net s u) (gives.same s u) (not (n == place))

    none : other_putters net s place (take over.1.0 b) ≡ 0
    none = count_none _ (λ p. by_start p.0 (started p.1)) (enumerate_from 0 (take over.1.0 b))

    own : one_if (takes net s t) ≡ 1
    own = ap one_if (gives.same s t ∙ over.0)

-- a front of a journal meets its rules
each_cut : {X : Type 0} (R : List X → X → Type 0) (c b : List X) (x : X) → EachAfterThese R c (b ++ x ∷ []) → EachAfterThese R c b
each_cut R c [] x each = tt
each_cut R c (y ∷ b) x each = (each.0, each_cut R (c ++ y ∷ []) b x each.1)

-- In a legal journal of such a net there is no trouble with units.
pub no_unit_trouble : (net : NetRows) (limit : ℕ) (h : List Entry) → Returns net → Steady net h → ShapeLegal net limit h → NoUnitTrouble h
no_unit_trouble net limit h gives steady shape = record { own = all.0; none_stuck = all.1 }
  where
    Both : List Entry → Type 0
    Both b = ShapeLegal net limit b × EachAfter StartRule b

    Rule : List Entry → Entry → Type 0
    Rule b x = Both (b ++ x ∷ []) × MayFollow net limit b x

    Kept : List Entry → Type 0
    Kept b = (count_by is_fault b ≤ count_by is_own_fault b) × (count_by is_stuck b ≡ 0)

    cut : (b : List Entry) (x : Entry) → Both (b ++ x ∷ []) → Both b
    cut b x both_x = (each_cut (MayFollow net limit) [] b x both_x.0, each_cut StartRule [] b x both_x.1)

    over_at : (b : List Entry) (start s : ℕ) (o : Option ℕ) → IsSomeAnd o (IsOverRelease net b s start) → ⊥
    over_at b start s None is = is
    over_at b start s (Some t) is = never_over net b start s t gives is

    fault : (b : List Entry) (start : ℕ) (why : Why) → MayFollow net limit b (Fault start why) → is_own_fault (Fault start why) ≡ true
    fault b start (Long n) may = refl
    fault b start (Wide n) may = refl
    fault b start (Unmet k) may = refl
    fault b start Inner may = refl
    fault b start (OverRelease s) may = absurd (over_at b start s (start_at b start) may.semaphore.over)

    drop : (b : List Entry) (t : ℕ) (cause : Cause) (why : DropWhy) → Rule b (Drop t cause why) → is_stuck (Drop t cause why) ≡ false
    drop b t cause Halted rule = refl
    drop b t cause Limit rule = refl
    drop b t cause (Stuck s) rule =
        let here : Both b = cut b (Drop t cause (Stuck s)) rule.0 in
        absurd (never_stuck net b t s gives (in_tasks net limit b here.0) (placed_along net limit b here.0 here.1).1 rule.1.in_range.2 rule.1.halt_limit_stuck.dropped)

    step : (b : List Entry) (x : Entry) → Rule b x → Kept b → Kept (b ++ x ∷ [])
    step b (Start task cause ins) rule kept = (omega (arith, kept.0, count_by_push_no is_fault b (Start task cause ins) refl, count_by_push_no is_own_fault b (Start task cause ins) refl), count_by_push_no is_stuck b (Start task cause ins) refl ∙ kept.1)
    step b (End start gives2 inner) rule kept = (omega (arith, kept.0, count_by_push_no is_fault b (End start gives2 inner) refl, count_by_push_no is_own_fault b (End start gives2 inner) refl), count_by_push_no is_stuck b (End start gives2 inner) refl ∙ kept.1)
    step b (Fault start why) rule kept = (omega (arith, kept.0, count_by_push_yes is_fault b (Fault start why) refl, count_by_push_yes is_own_fault b (Fault start why) (fault b start why rule.1)), count_by_push_no is_stuck b (Fault start why) refl ∙ kept.1)
    step b (Drop task cause why) rule kept = (omega (arith, kept.0, count_by_push_no is_fault b (Drop task cause why) refl, count_by_push_no is_own_fault b (Drop task cause why) refl), count_by_push_no is_stuck b (Drop task cause why) (drop b task cause why rule) ∙ kept.1)

    all : Kept h
    all = (along Rule Kept step [] h (omega arith, refl) (both _ _ [] h (each_front Both cut [] h (shape, steady.single)) shape)).1

-- When a run of a net without weak edges and starting tokens is cut short: by a fault of its one-thread values, or
-- where more tasks start than it may have Starts.
use Rattle.std.proofs.Common.{◌≡◌, ◌≢◌, ◌⊎◌, inl, inr, ℕ, zero, suc, ◌+◌, ◌-◌, ◌<◌, ◌≤◌, Bool, true, false, cond, eqb, List, [], ◌∷◌, ◌++◌, length, map, Option, Some, sym, refl, ap, ◌∙◌, subst, arith, ◌&&◌}
use Rattle.std.specs.Prelude.{slice_get, count_by, sum_by, ◌==◌}
use Rattle.std.specs.List.{AllByRecursion, range_with_len}
use Rattle.std.proofs.lemmas.Bool.Decides.{nat_tests}
use Rattle.std.proofs.lemmas.Bool.{cases_eq, cases_lt, false≢true}
use Rattle.std.proofs.lemmas.List.Sums.{sum_by-cons}
use Rattle.std.proofs.lemmas.Option.{slice_get_within}
use Rattle.task_graph.specs.NetRows.{NetRows}
use Rattle.task_graph.specs.Net.{is_weak, strong_in}
use Rattle.journal_rules.specs.declared.entry.Entry.{Entry}
use Rattle.journal_rules.specs.declared.entry.Entry.TheVariants.{Start, End, Fault, Drop}
use Rattle.journal_rules.specs.declared.entry.Cause.{Cause}
use Rattle.journal_rules.specs.declared.entry.Cause.TheVariants.{Source, Strong, Weak}
use Rattle.journal_rules.specs.Counts.{start_at, starts, is_start, is_fault}
use Rattle.journal_rules.specs.Complete.{Complete, is_limited, is_limit_why}
use Rattle.journal_rules.specs.HaltLimitStuckRule.{is_stuck}
use Rattle.journal_rules.specs.ReleaseRule.{IsReleased}
use Rattle.journal_rules.specs.ShapeLegal.{ShapeLegal, MayFollow}
use Rattle.journal_rules.specs.Entries.{EachAfter}
use Rattle.journal_rules.specs.OnceNets.{IsOnceNet}
use Rattle.journal_rules.proofs.Tallying.{count_by_push_no, count_by_push_yes}
use Rattle.journal_rules.proofs.OnceGiven.{uses_one, used_once}
use Rattle.join_words.specs.Ins.{InputValue}
use Rattle.run_frame.specs.declared.run.ValueRow.{ValueRow}
use Rattle.run_frame.specs.Runs.{IsFine}
use Rattle.run_laws.specs.Starts.{has_item, starts_once, tasks_started}
use Rattle.run_laws.specs.OneThreadValue.{OneAnswer, tokens, source_of, put_before, rounds_of, one_thread_value}
use Rattle.run_laws.proofs.Along.{along}
use Rattle.run_laws.proofs.Lists.{all_weaken, zip_weaken}
use Rattle.run_laws.proofs.Phases.{begins}
use Rattle.run_laws.proofs.Steps.{starts_in, ends_in, tokens_in}
use Rattle.run_laws.proofs.Values.{Kept, Ran, source_strong}
use Rattle.run_laws.proofs.Legally.{Given, Known, kept_all}
use Rattle.run_laws.proofs.Fronts.{front_get, front_tokens, rounds_have, rounds_parts, values_more}
use Rattle.run_laws.specs.Prefixes.{IsPrefixOf}
use Rattle.run_laws.proofs.Reaches.{is_end, Reach, reach_along}
use Rattle.run_laws.proofs.Whole.{Finished, round_started, all_values}
use Rattle.run_laws.specs.Starts.{rounds_in}
use Rattle.run_laws.proofs.Faults.{IsOneFault, is_own_fault, fault_later, fault_shown}
use Rattle.run_laws.specs.Starts.{HasFault}
use Rattle.run_laws.proofs.Tasks.{sum_plus, sum_same, sum_zero, sum_less, pick, count_tasks, each_entry, starts_tasks, ends_once}
use Rattle.run_laws.proofs.Along.{weaker}

abbrev one_if : Bool → ℕ
one_if b = cond b 1 0

item_when : {X : Type 0} (xs : List X) → 1 ≤ length xs → has_item xs ≡ true
item_when [] some = absurd (omega arith)
item_when (x ∷ xs) some = refl

when_item : {X : Type 0} (xs : List X) → has_item xs ≡ true → 1 ≤ length xs
when_item [] has = absurd (false≢true has)
when_item (x ∷ xs) has = omega arith

put_before_some : {X : Type 0} (xs : List X) (rs : List (List X)) → 1 ≤ length xs → has_item rs ≡ true → has_item (put_before xs rs) ≡ true
put_before_some [] rs some has = absurd (omega arith)
put_before_some (x ∷ xs) [] some has = has
put_before_some (x ∷ xs) (r ∷ rs) some has = refl

rounds_some : {X E : Type 0} (f : E → List X) (es : List E) → AllByRecursion (λ e. 1 ≤ length (f e)) es → has_item (rounds_of (map f es)) ≡ true
rounds_some f [] each = refl
rounds_some f (e ∷ []) each = by_list (f e) each.0
  where
    by_list : {X : Type 0} (xs : List X) → 1 ≤ length xs → has_item (map (λ x. x ∷ []) xs) ≡ true
    by_list [] some = absurd (omega arith)
    by_list (x ∷ xs) some = refl
rounds_some f (e ∷ d ∷ es) each = put_before_some (f e) (rounds_of (map f (d ∷ es))) each.0 (rounds_some f (d ∷ es) each.1)

front_length : {X : Type 0} (xs ys : List X) → IsPrefixOf xs ys → length xs ≤ length ys
front_length [] ys front = omega arith
front_length (x ∷ xs) [] front = absurd front
front_length (x ∷ xs) (y ∷ ys) front = omega (arith, front_length xs ys front.1)

-- a task that starts by n steps starts by more
round_later : {V : Type 0} (net : NetRows) (one : OneAnswer V) (n t : ℕ) → starts_once net one n t ≡ true → starts_once net one (suc n) t ≡ true
round_later {V} net one n t has = by_round (rounds_in net one n t) refl
  where
    before : ℕ → List (InputValue V)
    before e = tokens net e (one_thread_value net one n (source_of net e))

    now : ℕ → List (InputValue V)
    now e = tokens net e (one_thread_value net one (suc n) (source_of net e))

    by_round : (rs : List (List (InputValue V))) → rounds_in net one n t ≡ rs → starts_once net one (suc n) t ≡ true
    by_round [] is = absurd (false≢true (sym (ap has_item is) ∙ has))
    by_round (r ∷ rs) is =
        let at_0 : slice_get (rounds_in net one n t) 0 ≡ Some r = ap (λ xs. slice_get xs 0) is in
        let later : slice_get (rounds_in net one (suc n) t) 0 ≡ Some r =
        rounds_have now (strong_in net t) 0 r (λ none. refl)
        (zip_weaken (λ e x. slice_get (before e) 0 ≡ Some x) (λ e x. slice_get (now e) 0 ≡ Some x)
        (λ e x at_e. front_get (before e) (now e) (front_tokens net e _ _ (values_more net one n (source_of net e))) 0 x at_e) (strong_in net t) r (rounds_parts before (strong_in net t) 0 r at_0)) in
        item_when (rounds_in net one (suc n) t) (omega (arith, slice_get_within (rounds_in net one (suc n) t) 0 r later))

pub round_later_by : {V : Type 0} (net : NetRows) (one : OneAnswer V) (m n t : ℕ) → starts_once net one n t ≡ true → starts_once net one (m + n) t ≡ true
round_later_by net one zero n t has = let same : n ≡ zero + n = omega arith in subst (λ k. starts_once net one k t ≡ true) same has
round_later_by net one (suc m) n t has = let same : suc (m + n) ≡ suc m + n = omega arith in subst (λ k. starts_once net one k t ≡ true) same (round_later net one (m + n) t (round_later_by net one m n t has))

-- a task that is released starts
released_round : {V : Type 0} (net : NetRows) (one : OneAnswer V) (values : List (ValueRow V)) (at : ℕ → Option ℕ) (b : List Entry) (t : ℕ) (cause : Cause) → ((e : ℕ) → is_weak net e ≡ false) → Kept net one values at b → Reach net one values at b
    → IsReleased net b t cause → starts_once net one (count_by is_end b) t ≡ true
released_round {V} net one values at b t Source strong kept reach released = ap (λ es. has_item (rounds_of (map (λ e. tokens net e (one_thread_value net one (count_by is_end b) (source_of net e))) es))) (source_strong net t released.0)
released_round {V} net one values at b t Strong strong kept reach released =
    rounds_some (λ e. tokens net e (one_thread_value net one (count_by is_end b) (source_of net e))) (strong_in net t)
    (all_weaken _ (λ e. 1 ≤ length (tokens net e (one_thread_value net one (count_by is_end b) (source_of net e))))
    (λ e held. omega (arith, held, (kept.held e).count, front_length (tokens_in net values at e b) _ (front_tokens net e _ _ (reach.reached (source_of net e))))) (strong_in net t) released.1)
released_round net one values at b t (Weak e) strong kept reach released = absurd (false≢true (sym (strong e) ∙ released.0))

-- so each task that was used starts
used_round : {V : Type 0} (net : NetRows) (limit : ℕ) (one : OneAnswer V) (values : List (ValueRow V)) (h : List Entry) → Given net limit one values h → (t : ℕ) → 1 ≤ count_by (uses_one t) h → starts_once net one (count_by is_end h) t ≡ true
used_round {V} net limit one values h is = (along Rule Shown step [] h (λ t none. absurd (omega arith)) (reach_along net limit one values h is).0).1
  where
    Rule : List Entry → Entry → Type 0
    Rule b x = Reach net one values (start_at h) b × (Kept net one values (start_at h) b × Known net one values h b x)

    Shown : List Entry → Type 0
    Shown b = (t : ℕ) → 1 ≤ count_by (uses_one t) b → starts_once net one (count_by is_end b) t ≡ true

    same : (b : List Entry) (x : Entry) → is_end x ≡ false → (t : ℕ) → uses_one t x ≡ false → Shown b → 1 ≤ count_by (uses_one t) (b ++ x ∷ []) → starts_once net one (count_by is_end (b ++ x ∷ [])) t ≡ true
    same b x no_end t no_use shown some = subst (λ n. starts_once net one n t ≡ true) (sym (count_by_push_no is_end b x no_end)) (shown t (omega (arith, some, count_by_push_no (uses_one t) b x no_use)))

    a_use : (b : List Entry) (x : Entry) (task : ℕ) (cause : Cause) → is_end x ≡ false → ((t : ℕ) → uses_one t x ≡ eqb task t && true) → Rule b x → IsReleased net b task cause → Shown b → Shown (b ++ x ∷ [])
    a_use b x task cause no_end use_is rule released shown t some = by_task (cases_eq task t)
      where
        by_task : (task ≡ t) ⊎ (task ≢ t) → starts_once net one (count_by is_end (b ++ x ∷ [])) t ≡ true
        by_task (inl it) =
            subst (λ n. starts_once net one n t ≡ true) (sym (count_by_push_no is_end b x no_end))
            (subst (λ s. starts_once net one (count_by is_end b) s ≡ true) it (released_round net one values (start_at h) b task cause is.strong rule.1.0 rule.0 released))
        by_task (inr other) =
            let miss : eqb task t ≡ false = grind (arith, nat_tests) in
            same b x no_end t (use_is t ∙ ap (λ c. c && true) miss) shown some

    step : (b : List Entry) (x : Entry) → Rule b x → Shown b → Shown (b ++ x ∷ [])
    step b (Start task cause ins) rule shown = a_use b (Start task cause ins) task cause refl (λ t. refl) rule rule.1.1.release shown
    step b (Drop task cause why) rule shown = a_use b (Drop task cause why) task cause refl (λ t. refl) rule rule.1.1.release shown
    step b (Fault start why) rule shown = λ t some. same b (Fault start why) refl t refl shown some
    step b (End start gives inner) rule shown = λ t some.
        let more : suc (count_by is_end b) ≡ count_by is_end (b ++ End start gives inner ∷ []) = omega (arith, count_by_push_yes is_end b (End start gives inner) refl) in
        subst (λ n. starts_once net one n t ≡ true) more (round_later net one (count_by is_end b) t (shown t (omega (arith, some, count_by_push_no (uses_one t) b (End start gives inner) refl))))

-- the Drops of a task at the limit
limited_one : ℕ → Entry → Bool
limited_one t (Start task cause ins) = false
limited_one t (End start gives inner) = false
limited_one t (Fault start why) = false
limited_one t (Drop task cause why) = (task == t) && is_limit_why why

limited_tasks : (net : NetRows) (limit : ℕ) (h : List Entry) → ShapeLegal net limit h → count_by is_limited h ≡ sum_by (λ t. count_by (limited_one t) h) (range_with_len 0 (length net.tasks))
unfolding limited_one
limited_tasks net limit h shape =
    count_tasks is_limited limited_one (length net.tasks) h
    (each_entry (λ x. one_if (is_limited x) ≡ sum_by (λ t. one_if (limited_one t x)) (range_with_len 0 (length net.tasks))) [] h
    (weaker (MayFollow net limit) (λ b x. one_if (is_limited x) ≡ sum_by (λ t. one_if (limited_one t x)) (range_with_len 0 (length net.tasks))) each [] h shape))
  where
    none : 0 ≡ sum_by (λ (t : ℕ). 0) (range_with_len 0 (length net.tasks))
    none = sym (sum_zero (λ t. 0) (λ t. refl) (range_with_len 0 (length net.tasks)))

    by_why : (task : ℕ) → task < length net.tasks → (w : Bool) → one_if w ≡ sum_by (λ t. one_if ((task == t) && w)) (range_with_len 0 (length net.tasks))
    by_why task below true = sym (sum_same (λ t. one_if ((task == t) && true)) (λ t. one_if (task == t)) (λ t. and_one (task == t)) (range_with_len 0 (length net.tasks)) ∙ pick task (length net.tasks) below)
      where
        and_one : (c : Bool) → one_if (c && true) ≡ one_if c
        and_one true = refl
        and_one false = refl
    by_why task below false = sym (sum_zero (λ t. one_if ((task == t) && false)) (λ t. and_none (task == t)) (range_with_len 0 (length net.tasks)))
      where
        and_none : (c : Bool) → one_if (c && false) ≡ 0
        and_none true = refl
        and_none false = refl

    each : (b : List Entry) (x : Entry) → MayFollow net limit b x → one_if (is_limited x) ≡ sum_by (λ t. one_if (limited_one t x)) (range_with_len 0 (length net.tasks))
    each b (Start task cause ins) may = none
    each b (End start gives inner) may = none
    each b (Fault start why) may = none
    each b (Drop task cause why) may = by_why task may.in_range.0 (is_limit_why why)

-- a Start or a Drop at the limit is a use
uses_both : (t : ℕ) (h : List Entry) → count_by (begins t) h + count_by (limited_one t) h ≤ count_by (uses_one t) h
unfolding limited_one
uses_both t [] = omega arith
uses_both t (x ∷ h) = omega (arith, sum_by-cons (λ y. one_if (begins t y)) x h, sum_by-cons (λ y. one_if (limited_one t y)) x h, sum_by-cons (λ y. one_if (uses_one t y)) x h, by_entry x, uses_both t h)
  where
    both_less : (c w : Bool) → one_if (c && w) ≤ one_if (c && true)
    both_less true true = omega arith
    both_less true false = omega arith
    both_less false w = omega arith

    start_less : (c : Bool) → one_if c ≤ one_if (c && true)
    start_less true = omega arith
    start_less false = omega arith

    by_entry : (y : Entry) → one_if (begins t y) + one_if (limited_one t y) ≤ one_if (uses_one t y)
    by_entry (Start task cause ins) = omega (arith, start_less (task == t))
    by_entry (End start gives inner) = omega arith
    by_entry (Fault start why) = omega arith
    by_entry (Drop task cause why) = omega (arith, both_less (task == t) (is_limit_why why))

-- there are at most as many Starts as the limit
starts_most : (net : NetRows) (limit : ℕ) (h : List Entry) → ShapeLegal net limit h → starts h ≤ limit
starts_most net limit h shape = (along (MayFollow net limit) (λ b. starts b ≤ limit) step [] h (omega arith) shape).1
  where
    step : (b : List Entry) (x : Entry) → MayFollow net limit b x → starts b ≤ limit → starts (b ++ x ∷ []) ≤ limit
    step b (Start task cause ins) may few = omega (arith, may.halt_limit_stuck.dropped, count_by_push_yes is_start b (Start task cause ins) refl)
    step b (End start gives inner) may few = omega (arith, few, count_by_push_no is_start b (End start gives inner) refl)
    step b (Fault start why) may few = omega (arith, few, count_by_push_no is_start b (Fault start why) refl)
    step b (Drop task cause why) may few = omega (arith, few, count_by_push_no is_start b (Drop task cause why) refl)

-- A complete run in which nothing was cut short has no fault among its one-thread values, and no more tasks start
-- than the limit.
pub fine_within : {V : Type 0} (net : NetRows) (limit : ℕ) (one : OneAnswer V) (values : List (ValueRow V)) (h : List Entry) → Given net limit one values h → Finished net limit h → (n : ℕ) → tasks_started net one n ≤ limit
fine_within {V} net limit one values h is done n =
    omega (arith, below (length net.tasks) 0 (omega arith), starts_tasks net limit h is.shape, starts_most net limit h is.shape)
  where
    one_less : (t : ℕ) → t < length net.tasks → one_if (starts_once net one n t) ≤ count_by (begins t) h
    one_less t t_below = by_round (rounds_in net one n t) refl
      where
        by_round : (rs : List (List (InputValue V))) → rounds_in net one n t ≡ rs → one_if (starts_once net one n t) ≤ count_by (begins t) h
        by_round [] none = let no_one : one_if (starts_once net one n t) ≡ 0 = ap (λ xs. one_if (has_item xs)) none in omega arith
        by_round (r ∷ rs) some =
            let at_0 : slice_get (rounds_in net one n t) 0 ≡ Some r = ap (λ xs. slice_get xs 0) some in
            let once : one_if (starts_once net one n t) ≡ 1 = ap (λ xs. one_if (has_item xs)) some in
            let kept : Kept net one values (start_at h) h = (kept_all net limit one values h is).1 in
            let ran : Ran net one values (start_at h) t h (starts_in values t h) (ends_in values (start_at h) t h) = kept.ran t in
            omega (arith, once, ran.begun, round_started net limit one values h is done n t t_below (λ p p_below. all_values net limit one values h is done n p p_below) 0 r at_0)

    below : (k a : ℕ) → a + k ≤ length net.tasks → sum_by (λ t. one_if (starts_once net one n t)) (range_with_len a k) ≤ sum_by (λ t. count_by (begins t) h) (range_with_len a k)
    below zero a few = omega arith
    below (suc k) a few = omega (arith, sum_by-cons (λ t. one_if (starts_once net one n t)) a (range_with_len (a + 1) k), sum_by-cons (λ t. count_by (begins t) h) a (range_with_len (a + 1) k), one_less a (omega arith), below k (a + 1) (omega arith))

-- a run in which each Fault is one of the work, and no Drop is for want of a unit
pub record NoUnitTrouble (h : List Entry) : Type 0 where
  pub own : count_by is_fault h ≤ count_by is_own_fault h
  pub none_stuck : count_by is_stuck h ≡ 0

-- And a complete run of a net without weak edges and starting tokens is fine where its one-thread values have no
-- fault and no more tasks start than the limit.
pub within_fine : {V : Type 0} (net : NetRows) (limit : ℕ) (one : OneAnswer V) (values : List (ValueRow V)) (h : List Entry) → Given net limit one values h → EachAfter (IsOneFault one values) h → IsOnceNet net → Complete net limit h → NoUnitTrouble h
    → ¬ HasFault net one (length net.tasks) → tasks_started net one (length net.tasks) ≤ limit → IsFine h
within_fine {V} net limit one values h is one_faults plain complete units no_fault few = record {
  no_fault = none_faulted (cases_lt 0 (count_by is_fault h));
  none_limited = by_limited (cases_eq (count_by is_limited h) 0);
  none_stuck = units.none_stuck;
}
  where
    spare : ℕ
    spare = length net.tasks - count_by is_end h

    whole : spare + count_by is_end h ≡ length net.tasks
    whole = omega (arith, ends_once net limit h plain is.shape)

    later : (m n : ℕ) → HasFault net one n → HasFault net one (m + n)
    later zero n f = let same : n ≡ zero + n = omega arith in subst (λ k. HasFault net one k) same f
    later (suc m) n f = let same : suc (m + n) ≡ suc m + n = omega arith in subst (λ k. HasFault net one k) same (fault_later net one (m + n) (later m n f))

    none_faulted : (0 < count_by is_fault h) ⊎ (count_by is_fault h ≤ 0) → count_by is_fault h ≡ 0
    none_faulted (inl some) = absurd (no_fault (subst (λ k. HasFault net one k) whole (later spare (count_by is_end h) (fault_shown net limit one values h is one_faults (omega (arith, units.own))))))
    none_faulted (inr none) = omega arith

    one_less : (t : ℕ) → count_by (begins t) h + count_by (limited_one t) h ≤ one_if (starts_once net one (length net.tasks) t)
    one_less t = by_use (cases_lt 0 (count_by (uses_one t) h))
      where
        by_use : (0 < count_by (uses_one t) h) ⊎ (count_by (uses_one t) h ≤ 0) → count_by (begins t) h + count_by (limited_one t) h ≤ one_if (starts_once net one (length net.tasks) t)
        by_use (inl some) =
            let starts_it : starts_once net one (length net.tasks) t ≡ true = subst (λ k. starts_once net one k t ≡ true) whole (round_later_by net one spare (count_by is_end h) t (used_round net limit one values h is t some)) in
            let once : one_if (starts_once net one (length net.tasks) t) ≡ 1 = ap one_if starts_it in
            omega (arith, once, uses_both t h, used_once net limit h plain is.shape t)
        by_use (inr none) = omega (arith, uses_both t h)

    in_all : starts h + count_by is_limited h ≤ tasks_started net one (length net.tasks)
    in_all =
        omega (
          arith,
          starts_tasks net limit h is.shape,
          limited_tasks net limit h is.shape,
          sum_plus (λ t. count_by (begins t) h) (λ t. count_by (limited_one t) h) (range_with_len 0 (length net.tasks)),
          sum_less (λ t. count_by (begins t) h + count_by (limited_one t) h) (λ t. one_if (starts_once net one (length net.tasks) t)) one_less (range_with_len 0 (length net.tasks)),
        )

    by_limited : (count_by is_limited h ≡ 0) ⊎ (count_by is_limited h ≢ 0) → count_by is_limited h ≡ 0
    by_limited (inl none) = none
    by_limited (inr some) = absurd (omega (arith, complete.limited some, in_all, few, some))

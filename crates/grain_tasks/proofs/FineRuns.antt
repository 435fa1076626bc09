-- Nothing is cut short in a finished run of static chunks.
use Rattle.std.proofs.Common.{◌≡◌, ◌≢◌, ◌⊎◌, inl, inr, ℕ, ◌+◌, ◌<◌, ◌≤◌, max, Bool, true, false, eqb, List, [], ◌∷◌, length, Option, Some, None, refl, sym, ap, ◌∙◌, subst, arith}
use Rattle.std.specs.Prelude.{◌&&◌, ◌||◌, count_by, slice_get, IsSomeAnd}
use Rattle.std.specs.List.{AllByRecursion, IsDistinct, list_any}
use Rattle.std.proofs.Math.Bool.{and-true}
use Rattle.std.proofs.lemmas.Bool.{cases_eq, false≢true}
use Rattle.std.proofs.lemmas.Bool.Decides.{nat_tests}
use Rattle.std.proofs.lemmas.List.{length-replicate}
use Rattle.std.proofs.lemmas.List.Sums.{sum_by-cons}
use Rattle.std.proofs.lemmas.Map.Steps.{length-le_from_distinct_below}
use Rattle.task_graph.specs.NetRows.{NetRows}
use Rattle.journal_rules.specs.declared.entry.DropWhy.TheVariants.{Halted, Limit, Stuck}
use Rattle.journal_rules.specs.declared.entry.Entry.{Entry}
use Rattle.journal_rules.specs.declared.entry.Entry.TheVariants.{Start, End, Fault, Drop}
use Rattle.journal_rules.specs.declared.entry.Why.{Why}
use Rattle.journal_rules.specs.declared.entry.Why.TheVariants.{Long, Wide, Unmet, Inner, OverRelease}
use Rattle.journal_rules.specs.Complete.{is_limited, is_limit_why}
use Rattle.journal_rules.specs.Counts.{is_fault, is_start, starts}
use Rattle.journal_rules.specs.HaltLimitStuckRule.{is_stuck}
use Rattle.journal_rules.specs.OnceNets.{IsOnceNet}
use Rattle.journal_rules.specs.ShapeLegal.{MayFollow, ShapeLegal}
use Rattle.journal_rules.proofs.OnceGiven.{used_once, uses_one}
use Rattle.run_frame.specs.declared.run.FrameRun.{FrameRun}
use Rattle.run_frame.specs.Legal.{IsKept, LegalJournal, inner_at}
use Rattle.run_frame.specs.NestedRule.{InnerFault, InnerWhy, IsInnerOf, NestedRule, job_of, journal_of}
use Rattle.run_frame.specs.Runs.{IsFine, values_of}
use Rattle.run_frame.specs.WorkRule.{FaultAllowed, FaultRule, Work, WorkRule, work_at}
use Rattle.nested_runs.specs.Spreads.{part_row, spread_net}
use Rattle.grain_tasks.specs.ChunkWork.{ChunkWork, chunk_job, task_count}
use Rattle.grain_tasks.specs.Folds.{Folding}
use Rattle.grain_tasks.proofs.RunLemmas.{counted_at, legal_journal, met_at, one}

-- ---- the tasks whose releases are used

-- the task of an entry that uses a release, before these
abbrev after : Entry → List ℕ → List ℕ
after (Start task cause ins) tasks = task ∷ tasks
after (End start gives inner) tasks = tasks
after (Fault start why) tasks = tasks
after (Drop task cause why) tasks = task ∷ tasks

abbrev used_tasks : List Entry → List ℕ
used_tasks [] = []
used_tasks (x ∷ h) = after x (used_tasks h)

-- all Starts use one, and all Drops
starts_and_drops : (h : List Entry) → starts h + count_by is_limited h ≤ length (used_tasks h)
starts_and_drops [] = omega arith
starts_and_drops (x ∷ h) = by_entry x (starts_and_drops h)
  where
    split : (y : Entry) → starts (y ∷ h) + count_by is_limited (y ∷ h) ≡ (one (is_start y) + starts h) + (one (is_limited y) + count_by is_limited h)
    split y = omega (arith, sum_by-cons (λ z. one (is_start z)) y h, sum_by-cons (λ z. one (is_limited z)) y h)

    at_most_one : (b : Bool) → one b ≤ 1
    at_most_one true = omega arith
    at_most_one false = omega arith

    by_entry : (y : Entry) → starts h + count_by is_limited h ≤ length (used_tasks h) → starts (y ∷ h) + count_by is_limited (y ∷ h) ≤ length (after y (used_tasks h))
    by_entry (Start task cause ins) few = omega (arith, few, split (Start task cause ins))
    by_entry (End start gives inner) few = omega (arith, few, split (End start gives inner))
    by_entry (Fault start why) few = omega (arith, few, split (Fault start why))
    by_entry (Drop task cause why) few = omega (arith, few, split (Drop task cause why), at_most_one (is_limit_why why))

-- a task among them is counted
used_counted : (h : List Entry) (t : ℕ) → list_any (eqb t) (used_tasks h) ≡ true → 1 ≤ count_by (uses_one t) h
used_counted [] t is = absurd (false≢true is)
used_counted (x ∷ h) t is = by_entry x is (used_counted h t)
  where
    split : (y : Entry) → count_by (uses_one t) (y ∷ h) ≡ one (uses_one t y) + count_by (uses_one t) h
    split y = sum_by-cons (λ z. one (uses_one t z)) y h

    by_task : (y : Entry) (task : ℕ) → uses_one t y ≡ eqb task t → list_any (eqb t) (task ∷ used_tasks h) ≡ true → (list_any (eqb t) (used_tasks h) ≡ true → 1 ≤ count_by (uses_one t) h) → 1 ≤ count_by (uses_one t) (y ∷ h)
    by_task y task uses is more = by_test (eqb task t) refl
      where
        by_test : (b : Bool) → eqb task t ≡ b → 1 ≤ count_by (uses_one t) (y ∷ h)
        by_test true hits = omega (arith, split y, ap one uses, ap one hits)
        by_test false misses =
            let apart : eqb t task ≡ false = grind (arith, nat_tests) in
            omega (arith, split y, more (sym (ap (λ b. b || list_any (eqb t) (used_tasks h)) apart) ∙ is))

    by_entry : (y : Entry) → list_any (eqb t) (after y (used_tasks h)) ≡ true → (list_any (eqb t) (used_tasks h) ≡ true → 1 ≤ count_by (uses_one t) h) → 1 ≤ count_by (uses_one t) (y ∷ h)
    by_entry (Start task cause ins) is more = by_task (Start task cause ins) task (and-true (eqb task t)) is more
    by_entry (End start gives inner) is more = omega (arith, split (End start gives inner), more is)
    by_entry (Fault start why) is more = omega (arith, split (Fault start why), more is)
    by_entry (Drop task cause why) is more = by_task (Drop task cause why) task (and-true (eqb task t)) is more

-- what isn't counted isn't among them
none_used : (h : List Entry) (t : ℕ) → count_by (uses_one t) h ≡ 0 → AllByRecursion (λ s. eqb t s ≡ false) (used_tasks h)
none_used [] t none = tt
none_used (x ∷ h) t none = by_entry x none (none_used h t)
  where
    split : (y : Entry) → count_by (uses_one t) (y ∷ h) ≡ one (uses_one t y) + count_by (uses_one t) h
    split y = sum_by-cons (λ z. one (uses_one t z)) y h

    by_task : (y : Entry) (task : ℕ) → uses_one t y ≡ eqb task t → count_by (uses_one t) (y ∷ h) ≡ 0 → (count_by (uses_one t) h ≡ 0 → AllByRecursion (λ s. eqb t s ≡ false) (used_tasks h))
        → AllByRecursion (λ s. eqb t s ≡ false) (task ∷ used_tasks h)
    by_task y task uses none more = by_test (eqb task t) refl
      where
        by_test : (b : Bool) → eqb task t ≡ b → AllByRecursion (λ s. eqb t s ≡ false) (task ∷ used_tasks h)
        by_test true hits = absurd (omega (arith, split y, none, ap one uses, ap one hits))
        by_test false misses = (grind (arith, nat_tests), more (omega (arith, split y, none)))

    by_entry : (y : Entry) → count_by (uses_one t) (y ∷ h) ≡ 0 → (count_by (uses_one t) h ≡ 0 → AllByRecursion (λ s. eqb t s ≡ false) (used_tasks h)) → AllByRecursion (λ s. eqb t s ≡ false) (after y (used_tasks h))
    by_entry (Start task cause ins) none more = by_task (Start task cause ins) task (and-true (eqb task t)) none more
    by_entry (End start gives inner) none more = more (omega (arith, split (End start gives inner), none))
    by_entry (Fault start why) none more = more (omega (arith, split (Fault start why), none))
    by_entry (Drop task cause why) none more = by_task (Drop task cause why) task (and-true (eqb task t)) none more

-- where each is counted once at most they differ
used_differ : (h : List Entry) → ((t : ℕ) → count_by (uses_one t) h ≤ 1) → IsDistinct eqb (used_tasks h)
unfolding IsDistinct
used_differ [] once = tt
used_differ (x ∷ h) once = by_entry x once (used_differ h (λ t. omega (arith, once t, split t x)))
  where
    split : (t : ℕ) (y : Entry) → count_by (uses_one t) (y ∷ h) ≡ one (uses_one t y) + count_by (uses_one t) h
    split t y = sum_by-cons (λ z. one (uses_one t z)) y h

    hit : (t : ℕ) → one (eqb t t && true) ≡ 1
    hit t = let same : eqb t t ≡ true = grind (arith, nat_tests) in ap (λ b. one (b && true)) same

    by_entry : (y : Entry) → ((t : ℕ) → count_by (uses_one t) (y ∷ h) ≤ 1) → IsDistinct eqb (used_tasks h) → IsDistinct eqb (after y (used_tasks h))
    by_entry (Start task cause ins) once rest = (none_used h task (omega (arith, once task, split task (Start task cause ins), hit task)), rest)
    by_entry (End start gives inner) once rest = rest
    by_entry (Fault start why) once rest = rest
    by_entry (Drop task cause why) once rest = (none_used h task (omega (arith, once task, split task (Drop task cause why), hit task)), rest)

-- so there are no more Starts and Drops at the limit than tasks
starts_within : (net : NetRows) (limit : ℕ) (h : List Entry) → IsOnceNet net → ShapeLegal net limit h → starts h + count_by is_limited h ≤ length net.tasks
starts_within net limit h once legal =
    omega (arith, starts_and_drops h, length-le_from_distinct_below (used_tasks h) (length net.tasks) (used_differ h (used_once net limit h once legal)) in_range)
  where
    by_entry : (t : ℕ) (front : List Entry) (x : Entry) → uses_one t x ≡ true → MayFollow net limit front x → t < length net.tasks
    by_entry t front (Start task cause ins) uses may = let same : eqb task t ≡ true = sym (and-true (eqb task t)) ∙ uses in let is : task ≡ t = grind (arith, nat_tests) in omega (arith, is, may.in_range.0)
    by_entry t front (End start gives inner) uses may = absurd (false≢true uses)
    by_entry t front (Fault start why) uses may = absurd (false≢true uses)
    by_entry t front (Drop task cause why) uses may = let same : eqb task t ≡ true = sym (and-true (eqb task t)) ∙ uses in let is : task ≡ t = grind (arith, nat_tests) in omega (arith, is, may.in_range.0)

    in_range : (t : ℕ) → list_any (eqb t) (used_tasks h) ≡ true → t < length net.tasks
    in_range t is =
        let found = counted_at (uses_one t) h (used_counted h t is) in
        let met = met_at (MayFollow net limit) [] h found.0 found.1 legal found.2 in
        by_entry t met.0 found.1 found.3 met.4

-- ---- runs of static chunks

module _ {F V : Type 0} (folding : Folding F V) (run : FrameRun (ChunkWork F) V) (kept : IsKept (chunk_job folding) run) where
  abbrev h : List Entry
  h = journal_of run

  abbrev work : ChunkWork F
  work = job_of run

  abbrev net : NetRows
  net = spread_net (task_count work)

  abbrev limit : ℕ
  limit = max (task_count work) 1

  rules : LegalJournal (chunk_job folding) run
  rules = legal_journal (chunk_job folding) run kept.legal

  once_net : IsOnceNet net
  once_net = record { strong = λ e. refl; no_first = λ e. refl }

  no_fault_at : (n : ℕ) (a b c : List Entry) (start : ℕ) (why : Why) → length b ≡ n → length c ≡ n → MayFollow net limit a (Fault start why)
      → WorkRule (chunk_job folding) work (values_of run) (inner_at run) b (Fault start why) → NestedRule (chunk_job folding) work (values_of run) (inner_at run) c (Fault start why) → ⊥
  no_fault_at n a b c start why at_b at_c may works nested =
      by_run
      (inner_at run n)
      (subst (λ k. FaultRule (chunk_job folding) work (values_of run) b start why (inner_at run k)) at_b works)
      (subst (λ k. InnerFault (chunk_job folding) work (values_of run) c start why (inner_at run k)) at_c nested)
    where
      of_work : (w : Work V) (why' : Why) → MayFollow net limit a (Fault start why') → FaultAllowed (chunk_job folding) work w why' → ⊥
      of_work w (Long k) may allowed = allowed
      of_work w (Wide k) may allowed = allowed
      of_work w (Unmet k) may allowed = allowed
      of_work w Inner may allowed = allowed
      of_work w (OverRelease s) may allowed = absurd (omega (arith, may.in_range))

      of_option : (o : Option (Work V)) → IsSomeAnd o (λ w. FaultAllowed (chunk_job folding) work w why) → ⊥
      of_option None allowed = allowed
      of_option (Some w) allowed = of_work w why may allowed

      in_option : (inner : FrameRun (ChunkWork F) V) (o : Option (Work V)) → IsSomeAnd o (λ w. IsInnerOf (chunk_job folding) work w inner × InnerWhy (chunk_job folding) inner why) → ⊥
      in_option inner None fits = fits
      in_option inner (Some w) fits = fits.0

      by_run : (o : Option (FrameRun (ChunkWork F) V)) → FaultRule (chunk_job folding) work (values_of run) b start why o → InnerFault (chunk_job folding) work (values_of run) c start why o → ⊥
      by_run None works nested = of_option (work_at (values_of run) b start) works
      by_run (Some inner) works nested = in_option inner (work_at (values_of run) c start) nested

  no_entry : (p : Entry → Bool) → ((n : ℕ) (x : Entry) → slice_get h n ≡ Some x → p x ≡ true → ⊥) → count_by p h ≡ 0
  no_entry p none = by_count (cases_eq (count_by p h) 0)
    where
      by_count : (count_by p h ≡ 0) ⊎ (count_by p h ≢ 0) → count_by p h ≡ 0
      by_count (inl zero_of) = zero_of
      by_count (inr some) = let found = counted_at p h (omega (arith, some)) in absurd (none found.0 found.1 found.2 found.3)

  not_faulted : (n : ℕ) (x : Entry) → slice_get h n ≡ Some x → is_fault x ≡ true → ⊥
  not_faulted n (Start task cause ins) at is = false≢true is
  not_faulted n (End start gives inner) at is = false≢true is
  not_faulted n (Drop task cause why) at is = false≢true is
  not_faulted n (Fault start why) at is =
      let may = met_at (MayFollow net limit) [] h n (Fault start why) rules.shape at in
      let works = met_at (WorkRule (chunk_job folding) work (values_of run) (inner_at run)) [] h n (Fault start why) rules.work at in
      let nested = met_at (NestedRule (chunk_job folding) work (values_of run) (inner_at run)) [] h n (Fault start why) rules.nested at in
      no_fault_at n may.0 works.0 nested.0 start why (omega (arith, works.3)) (omega (arith, nested.3)) may.4 works.4 nested.4

  not_stuck : (n : ℕ) (x : Entry) → slice_get h n ≡ Some x → is_stuck x ≡ true → ⊥
  not_stuck n (Start task cause ins) at is = false≢true is
  not_stuck n (End start gives inner) at is = false≢true is
  not_stuck n (Fault start why) at is = false≢true is
  not_stuck n (Drop task cause Halted) at is = false≢true is
  not_stuck n (Drop task cause Limit) at is = false≢true is
  not_stuck n (Drop task cause (Stuck s)) at is =
      let may = met_at (MayFollow net limit) [] h n (Drop task cause (Stuck s)) rules.shape at in
      absurd (omega (arith, may.4.in_range.2))

  not_limited : (count_by is_limited h ≡ 0) ⊎ (count_by is_limited h ≢ 0) → count_by is_limited h ≡ 0
  not_limited (inl none) = none
  not_limited (inr some) =
      absurd (omega (arith, some, kept.complete.limited some, starts_within net limit h once_net rules.shape, length-replicate (task_count work) part_row))

  pub runs_fine : IsFine h
  runs_fine = record {
    no_fault = no_entry is_fault not_faulted;
    none_limited = not_limited (cases_eq (count_by is_limited h) 0);
    none_stuck = no_entry is_stuck not_stuck;
  }

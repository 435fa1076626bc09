-- What a finished run of a net without edges ended with, where nothing in it was cut short.
use Rattle.std.proofs.Common.{◌≡◌, ℕ, zero, suc, ◌+◌, ◌<◌, ◌≤◌, Bool, true, false, cond, List, [], ◌∷◌, ◌++◌, length, Option, Some, None, refl, sym, ap, ◌∙◌, subst, arith, append_assoc}
use Rattle.std.specs.Prelude.{◌==◌, ◌&&◌, count_by, is_some, replicate, slice_get, IsSomeAnd}
use Rattle.std.specs.List.{AllByRecursion, range_with_len}
use Rattle.std.specs.Option.{option_and_then, option_map_or}
use Rattle.std.proofs.lemmas.Bool.{false≢true}
use Rattle.std.proofs.lemmas.Bool.Decides.{nat_tests}
use Rattle.std.proofs.lemmas.List.{length-append, length-replicate}
use Rattle.std.proofs.lemmas.List.Sums.{sum_by-append, sum_by-cons}
use Rattle.std.proofs.lemmas.Option.{none-some, same_Some}
use Rattle.task_graph.specs.NetRows.{NetRows}
use Rattle.task_graph.specs.Net.{IsSource}
use Rattle.journal_rules.specs.declared.entry.Cause.{Cause}
use Rattle.journal_rules.specs.declared.entry.DropWhy.{DropWhy}
use Rattle.journal_rules.specs.declared.entry.DropWhy.TheVariants.{Halted, Limit, Stuck}
use Rattle.journal_rules.specs.declared.entry.Entry.{Entry}
use Rattle.journal_rules.specs.declared.entry.Entry.TheVariants.{Start, End, Fault, Drop}
use Rattle.journal_rules.specs.Complete.{is_limited}
use Rattle.journal_rules.specs.Counts.{closes, faults, is_fault, is_open, is_source, start_at, started, used_source, uses}
use Rattle.journal_rules.specs.Entries.{EachAfterThese}
use Rattle.journal_rules.specs.HaltLimitStuckRule.{is_stuck}
use Rattle.journal_rules.specs.ShapeLegal.{MayFollow}
use Rattle.run_frame.specs.declared.job.Done.TheVariants.{Inner as InnerJob}
use Rattle.run_frame.specs.declared.run.FrameRun.{FrameRun, FrameRun'}
use Rattle.run_frame.specs.declared.run.ValueRow.{ValueRow}
use Rattle.run_frame.specs.LastEnds.{ended_task, is_end_of, last_before, last_value}
use Rattle.run_frame.specs.Legal.{IsKept, Legal, LegalJournal, inner_at}
use Rattle.run_frame.specs.Meaning.{Meaning}
use Rattle.run_frame.specs.NestedRule.{InnerEnd, NestedRule, job_of, journal_of}
use Rattle.run_frame.specs.Runs.{IsFine, value_at, values_of}
use Rattle.run_frame.specs.WorkRule.{Answers, Work, WorkRule, work_at, work_of}
use Rattle.run_frame.proofs.EndsLemmas.{last_before_at}
use Rattle.nested_runs.specs.Spreads.{part_row, spread_net}
use Rattle.grain_tasks.specs.Chunks.{chunk_at, chunk_fold}
use Rattle.grain_tasks.specs.ChunkWork.{ChunkWork, chunk_job, task_count}
use Rattle.grain_tasks.specs.Folds.{Folding}
use Rattle.grain_tasks.specs.inside.Gathering.{EndWithChunks}

-- ---- lists

abbrev pub one : Bool → ℕ
one b = cond b 1 0

module _ {X : Type 0} where
  -- what is counted stands somewhere
  pub counted_at : (p : X → Bool) (xs : List X) → 1 ≤ count_by p xs → (n : ℕ) × (x : X) × (slice_get xs n ≡ Some x) × (p x ≡ true)
  counted_at p [] some = absurd (omega arith)
  counted_at p (x ∷ xs) some = by_test (p x) refl (counted_at p xs)
    where
      by_test : (is : Bool) → p x ≡ is → (1 ≤ count_by p xs → (n : ℕ) × (y : X) × (slice_get xs n ≡ Some y) × (p y ≡ true)) → (n : ℕ) × (y : X) × (slice_get (x ∷ xs) n ≡ Some y) × (p y ≡ true)
      by_test true is more = (zero, x, refl, is)
      by_test false is more =
          let a : count_by p (x ∷ xs) ≡ one (p x) + count_by p xs = sum_by-cons (λ y. one (p y)) x xs in
          let b : one (p x) ≡ 0 = ap one is in
          let found = more (omega (arith, a, b, some)) in
          (suc found.0, found.1, found.2, found.3)

  -- where nothing is counted nothing passes
  pub none_counted : (p : X → Bool) (xs : List X) (n : ℕ) (x : X) → count_by p xs ≡ 0 → slice_get xs n ≡ Some x → p x ≡ false
  none_counted p [] n x none at = absurd (none-some x at)
  none_counted p (y ∷ ys) n x none at = by_test (p y) refl (λ k. none_counted p ys k x) n at
    where
      split : count_by p (y ∷ ys) ≡ one (p y) + count_by p ys
      split = sum_by-cons (λ z. one (p z)) y ys

      by_test : (is : Bool) → p y ≡ is → ((k : ℕ) → count_by p ys ≡ 0 → slice_get ys k ≡ Some x → p x ≡ false) → (n : ℕ) → slice_get (y ∷ ys) n ≡ Some x → p x ≡ false
      by_test true is more n at = let b : one (p y) ≡ 1 = ap one is in absurd (omega (arith, split, b, none))
      by_test false is more zero at = let same : y ≡ x = same_Some _ _ at in subst (λ z. p z ≡ false) same is
      by_test false is more (suc n) at = more n (omega (arith, split, none)) at

  -- the item at a place meets the rule after the items before it
  pub met_at : (Rule : List X → X → Type 0) (before xs : List X) (n : ℕ) (x : X) → EachAfterThese Rule before xs → slice_get xs n ≡ Some x
      → (front rest : List X) × (before ++ xs ≡ front ++ x ∷ rest) × (length front ≡ length before + n) × Rule front x
  met_at Rule before [] n x each at = absurd (none-some x at)
  met_at Rule before (y ∷ ys) zero x each at =
      let same : y ≡ x = same_Some _ _ at in
      (before, ys, ap (λ z. before ++ z ∷ ys) same, omega arith, subst (λ z. Rule before z) same each.0)
  met_at Rule before (y ∷ ys) (suc n) x each at =
      let met = met_at Rule (before ++ y ∷ []) ys n x each.1 at in
      let longer : length (before ++ y ∷ []) ≡ length before + 1 = length-append before (y ∷ []) in
      (met.0, met.1, sym (append_assoc before (y ∷ []) ys) ∙ met.2, omega (arith, met.3, longer), met.4)

  pub get_front : (xs ys : List X) (n : ℕ) (x : X) → slice_get xs n ≡ Some x → slice_get (xs ++ ys) n ≡ Some x
  get_front [] ys n x at = absurd (none-some x at)
  get_front (z ∷ xs) ys zero x at = at
  get_front (z ∷ xs) ys (suc n) x at = get_front xs ys n x at

  pub get_within : (xs : List X) (n : ℕ) (x : X) → slice_get xs n ≡ Some x → n < length xs
  get_within [] n x at = absurd (none-some x at)
  get_within (z ∷ xs) zero x at = omega arith
  get_within (z ∷ xs) (suc n) x at = omega (arith, get_within xs n x at)

pub all_below : (P : ℕ → Type 0) (a n k : ℕ) → AllByRecursion P (range_with_len a n) → a ≤ k → k < a + n → P k
all_below P a zero k each low high = absurd (omega arith)
all_below P a (suc n) k each low high = first_or (a == k) refl (λ le lt. all_below P (a + 1) n k each.1 le lt)
  where
    first_or : (b : Bool) → (a == k) ≡ b → (a + 1 ≤ k → k < (a + 1) + n → P k) → P k
    first_or true is more = let same : a ≡ k = grind (arith, nat_tests) in subst P same each.0
    first_or false is more = more (grind (arith, nat_tests)) (omega arith)

-- The last of a task's Ends is one, where there is any.
pub last_found : (journal : List Entry) (t n q : ℕ) → q < n → is_end_of journal t q ≡ true → (k : ℕ) × (last_before journal t n ≡ Some k) × (is_end_of journal t k ≡ true)
last_found journal t zero q below is = absurd (omega arith)
last_found journal t (suc n) q below is = by_test (is_end_of journal t n) refl (λ earlier. last_found journal t n q earlier is)
  where
    next : suc n ≡ n + 1
    next = omega arith

    here : last_before journal t (suc n) ≡ cond (is_end_of journal t n) (Some n) (last_before journal t n)
    here = ap (last_before journal t) next ∙ last_before_at journal t n

    by_test : (b : Bool) → is_end_of journal t n ≡ b → (q < n → (k : ℕ) × (last_before journal t n ≡ Some k) × (is_end_of journal t k ≡ true)) → (k : ℕ) × (last_before journal t (suc n) ≡ Some k) × (is_end_of journal t k ≡ true)
    by_test true hits more = (n, here ∙ ap (λ b. cond b (Some n) (last_before journal t n)) hits, hits)
    by_test false misses more =
        let found = more (not_here (q == n) refl) in
        (found.0, here ∙ ap (λ b. cond b (Some n) (last_before journal t n)) misses ∙ found.1, found.2)
      where
        not_here : (b : Bool) → (q == n) ≡ b → q < n
        not_here true same = let e : q ≡ n = grind (arith, nat_tests) in absurd (false≢true (sym misses ∙ ap (is_end_of journal t) (sym e) ∙ is))
        not_here false apart = let ne : ¬ (q ≡ n) = λ e. absurd (grind (arith, nat_tests)) in grind (arith, nat_tests)

-- ---- runs

-- The tasks of a job each come to one value, in no inner run, and none has an incoming edge.
pub record HasValues {J V : Type 0} (meaning : Meaning J V) (job : J) (value : ℕ → V) : Type 0 where
  pub answers : (t : ℕ) (w : Work V) (v : V) (gives : List ℕ) → w.task ≡ t → Answers meaning job w v gives → v ≡ value t
  pub no_inner : (w : Work V) (inner : J) → ¬ meaning.answers job w.task w.found (InnerJob inner)
  pub source : (t : ℕ) → t < length (meaning.net job).tasks → IsSource (meaning.net job) t

module _ {J V : Type 0} (meaning : Meaning J V) where
  pub legal_journal : (run : FrameRun J V) → Legal meaning run → LegalJournal meaning run
  legal_journal (FrameRun' job journal values shape rows) legal = legal.0

  module _ (run : FrameRun J V) (value : ℕ → V) (kept : IsKept meaning run) (fine : IsFine (journal_of run)) (has : HasValues meaning (job_of run) value) where
    abbrev journal : List Entry
    journal = journal_of run

    abbrev values : List (ValueRow V)
    values = values_of run

    abbrev net : NetRows
    net = meaning.net (job_of run)

    rules : LegalJournal meaning run
    rules = legal_journal run kept.legal

    -- no fault before any entry
    no_fault_before : (front rest : List Entry) (x : Entry) → journal ≡ front ++ x ∷ rest → ¬ (1 ≤ faults front)
    no_fault_before front rest x is some =
        let a : count_by is_fault (front ++ x ∷ rest) ≡ count_by is_fault front + count_by is_fault (x ∷ rest) = sum_by-append (λ y. cond (is_fault y) 1 0) front (x ∷ rest) in
        let b : count_by is_fault journal ≡ count_by is_fault (front ++ x ∷ rest) = ap (count_by is_fault) is in
        absurd (omega (arith, a, b, fine.no_fault, some))

    not_dropped : (n t : ℕ) (cause : Cause) (why : DropWhy) → ¬ (slice_get journal n ≡ Some (Drop t cause why))
    not_dropped n t cause Halted at =
        let met = met_at (MayFollow net (meaning.limit (job_of run))) [] journal n (Drop t cause Halted) rules.shape at in
        no_fault_before met.0 met.1 (Drop t cause Halted) met.2 met.4.halt_limit_stuck.dropped
    not_dropped n t cause Limit at = false≢true (sym (none_counted is_limited journal n (Drop t cause Limit) fine.none_limited at))
    not_dropped n t cause (Stuck s) at = false≢true (sym (none_counted is_stuck journal n (Drop t cause (Stuck s)) fine.none_stuck at))

    both_true : (a b : Bool) → (a && b) ≡ true → a ≡ true
    both_true true b is = refl
    both_true false b is = is

    same_number : (a b : ℕ) → (a == b) ≡ true → a ≡ b
    same_number a b is = grind (arith, nat_tests)

    -- each task is started
    started_at : (t n : ℕ) (x : Entry) → slice_get journal n ≡ Some x → uses is_source t x ≡ true → start_at journal n ≡ Some t
    started_at t n (Start task cause ins) at is =
        ap (option_and_then (λ y. started y)) at ∙ ap Some (same_number task t (both_true (task == t) (is_source cause) is))
    started_at t n (End start gives inner) at is = absurd (false≢true is)
    started_at t n (Fault start why) at is = absurd (false≢true is)
    started_at t n (Drop task cause why) at is = absurd (not_dropped n task cause why at)

    -- and ended
    closed_at : (t p n : ℕ) (x : Entry) → start_at journal p ≡ Some t → slice_get journal n ≡ Some x → closes p x ≡ true → is_end_of journal t n ≡ true
    closed_at t p n (Start task cause ins) starts at is = absurd (false≢true is)
    closed_at t p n (End start gives inner) starts at is =
        let same : start ≡ p = same_number start p is in
        let task : start_at journal start ≡ Some t = ap (start_at journal) same ∙ starts in
        let hit : (t == t) ≡ true = grind (arith, nat_tests) in
        ap (λ o. option_map_or (λ k. k == t) (option_and_then (ended_task journal) o) false) at
        ∙ ap (λ o. option_map_or (λ k. k == t) o false) task ∙ hit
    closed_at t p n (Fault start why) starts at is = absurd (false≢true (sym (none_counted is_fault journal n (Fault start why) fine.no_fault at)))
    closed_at t p n (Drop task cause why) starts at is = absurd (false≢true is)

    some_closes : (p t : ℕ) → start_at journal p ≡ Some t → is_open journal p ≡ false → 1 ≤ count_by (closes p) journal
    some_closes p t starts shut =
        let a : (is_some (Some t) && (count_by (closes p) journal == 0)) ≡ false = ap (λ (o : Option ℕ). is_some o && (count_by (closes p) journal == 0)) (sym starts) ∙ shut in
        let b : (count_by (closes p) journal == 0) ≡ false = a in
        grind (arith, nat_tests)

    ended : (t : ℕ) → t < length net.tasks → (n : ℕ) × (n < length journal) × (is_end_of journal t n ≡ true)
    ended t below =
        let uses_one : used_source t journal ≡ 1 = all_below (λ s. IsSource net s → used_source s journal ≡ 1) 0 (length net.tasks) t kept.complete.sources (omega arith) (omega arith) (has.source t below) in
        let start = counted_at (uses is_source t) journal (omega (arith, uses_one)) in
        let starts : start_at journal start.0 ≡ Some t = started_at t start.0 start.1 start.2 start.3 in
        let shut : is_open journal start.0 ≡ false = all_below (λ n. is_open journal n ≡ false) 0 (length journal) start.0 kept.complete.none_open (omega arith) (omega (arith, get_within journal start.0 start.1 start.2)) in
        let close = counted_at (closes start.0) journal (some_closes start.0 t starts shut) in
        (close.0, get_within journal close.0 close.1 close.2, closed_at t start.0 close.0 close.1 starts close.2 close.3)

    -- the work that an End closes is of the task that it ends
    work_is : (front rest : List Entry) (x : Entry) (start t : ℕ) (w : Work V) → journal ≡ front ++ x ∷ rest → start_at journal start ≡ Some t → work_at values front start ≡ Some w → w.task ≡ t
    work_is front rest x start t w is starts works = by_entry (slice_get front start) refl (works)
      where
        by_start : (y : Entry) → slice_get front start ≡ Some y → work_of values y ≡ Some w → w.task ≡ t
        by_start (Start task cause ins) at works =
            let whole : slice_get journal start ≡ Some (Start task cause ins) = ap (λ l. slice_get l start) is ∙ get_front front (x ∷ rest) start (Start task cause ins) at in
            let told : Some task ≡ Some t = sym (ap (option_and_then (λ z. started z)) whole) ∙ starts in
            ap (λ (v : Work V). v.task) (sym (same_Some _ _ works)) ∙ same_Some _ _ told
        by_start (End s gives inner) at works = absurd (none-some w works)
        by_start (Fault s why) at works = absurd (none-some w works)
        by_start (Drop task cause why) at works = absurd (none-some w works)

        by_entry : (o : Option Entry) → slice_get front start ≡ o → elim o [ None ↦ None | Some entry ↦ work_of values entry ] ≡ Some w → w.task ≡ t
        by_entry None at works = absurd (none-some w works)
        by_entry (Some y) at works = by_start y at works

    -- an End's value
    end_value : (n start t : ℕ) (gives : List ℕ) (inner : Bool) → slice_get journal n ≡ Some (End start gives inner) → start_at journal start ≡ Some t → value_at values n ≡ Some (value t)
    end_value n start t gives false at starts =
        let met = met_at (WorkRule meaning (job_of run) values (inner_at run)) [] journal n (End start gives false) rules.work at in
        let place : length met.0 ≡ n = omega (arith, met.3) in
        subst (λ k. value_at values k ≡ Some (value t)) place (by_work met.0 met.1 met.2 (work_at values met.0 start) refl met.4)
      where
        by_value : (w : Work V) (o : Option V) → w.task ≡ t → IsSomeAnd o (λ v. Answers meaning (job_of run) w v gives) → o ≡ Some (value t)
        by_value w None of_t a = absurd a
        by_value w (Some v) of_t a = ap Some (has.answers t w v gives of_t a)

        by_work : (front rest : List Entry) → journal ≡ front ++ End start gives false ∷ rest → (o : Option (Work V)) → work_at values front start ≡ o
            → IsSomeAnd o (λ (w : Work V). IsSomeAnd (value_at values (length front)) (λ v. Answers meaning (job_of run) w v gives)) → value_at values (length front) ≡ Some (value t)
        by_work front rest is None works a = absurd a
        by_work front rest is (Some w) works a = by_value w (value_at values (length front)) (work_is front rest (End start gives false) start t w is starts works) a
    end_value n start t gives true at starts =
        let met = met_at (NestedRule meaning (job_of run) values (inner_at run)) [] journal n (End start gives true) rules.nested at in
        absurd (by_run met.0 (inner_at run (length met.0)) met.4)
      where
        by_value : (inner : FrameRun J V) (w : Work V) (o : Option V) → IsSomeAnd o (λ v. InnerEnd meaning (job_of run) w v gives inner) → ⊥
        by_value inner w None a = a
        by_value inner w (Some v) a = has.no_inner w (job_of inner) a.answered

        by_work : (inner : FrameRun J V) (front : List Entry) (o : Option (Work V)) → IsSomeAnd o (λ (w : Work V). IsSomeAnd (value_at values (length front)) (λ v. InnerEnd meaning (job_of run) w v gives inner)) → ⊥
        by_work inner front None a = a
        by_work inner front (Some w) a = by_value inner w (value_at values (length front)) a

        by_run : (front : List Entry) (o : Option (FrameRun J V)) → IsSomeAnd o (λ inner. IsSomeAnd (work_at values front start) (λ (w : Work V). IsSomeAnd (value_at values (length front)) (λ v. InnerEnd meaning (job_of run) w v gives inner))) → ⊥
        by_run front None a = a
        by_run front (Some inner) a = by_work inner front (work_at values front start) a

    value_of_end : (t n : ℕ) → is_end_of journal t n ≡ true → value_at values n ≡ Some (value t)
    value_of_end t n is = by_entry (slice_get journal n) refl is
      where
        by_start : (start : ℕ) (gives : List ℕ) (inner : Bool) → slice_get journal n ≡ Some (End start gives inner) → (o : Option ℕ) → start_at journal start ≡ o → option_map_or (λ k. k == t) o false ≡ true → value_at values n ≡ Some (value t)
        by_start start gives inner at None starts is = absurd (false≢true is)
        by_start start gives inner at (Some s) starts is = end_value n start t gives inner at (starts ∙ ap Some (same_number s t is))

        by_entry : (o : Option Entry) → slice_get journal n ≡ o → option_map_or (λ k. k == t) (option_and_then (ended_task journal) o) false ≡ true → value_at values n ≡ Some (value t)
        by_entry None at is = absurd (false≢true is)
        by_entry (Some (Start task cause ins)) at is = absurd (false≢true is)
        by_entry (Some (Fault start why)) at is = absurd (false≢true is)
        by_entry (Some (Drop task cause why)) at is = absurd (false≢true is)
        by_entry (Some (End start gives inner)) at is = by_start start gives inner at (start_at journal start) refl is

    -- what each task ended with
    pub ends_with : (t : ℕ) → t < length net.tasks → last_value journal values t ≡ Some (value t)
    ends_with t below =
        let end = ended t below in
        let last = last_found journal t (length journal) end.0 end.1 end.2 in
        ap (option_and_then (value_at values)) last.1 ∙ value_of_end t last.0 last.2

-- ---- static chunks

module _ {F V : Type 0} (folding : Folding F V) where
  part_source : (parts t : ℕ) → IsSource (spread_net parts) t
  part_source parts t = refl

  chunk_values : (work : ChunkWork F) → HasValues (chunk_job folding) work (λ t. chunk_fold folding work.f (chunk_at work.count work.grain t))
  chunk_values work = record {
    answers = λ t w v gives is a. a.allowed.0 ∙ ap (λ k. chunk_fold folding work.f (chunk_at work.count work.grain k)) is;
    no_inner = λ w inner a. a;
    source = λ t below. part_source (task_count work) t;
  }

  -- each task of a run of static chunks ended with the fold of its chunk
  pub chunks_end : (run : FrameRun (ChunkWork F) V) (work : ChunkWork F) → job_of run ≡ work → IsKept (chunk_job folding) run → IsFine (journal_of run)
      → EndWithChunks folding work.f work.count work.grain (journal_of run) (values_of run)
  chunks_end run work is kept fine t below =
      let here : t < task_count (job_of run) = subst (λ (w : ChunkWork F). t < task_count w) (sym is) below in
      let long : length (replicate (task_count (job_of run)) part_row) ≡ task_count (job_of run) = length-replicate (task_count (job_of run)) part_row in
      ends_with (chunk_job folding) run (λ k. chunk_fold folding (job_of run).f (chunk_at (job_of run).count (job_of run).grain k)) kept fine (chunk_values (job_of run)) t (omega (arith, here, long))
      ∙ ap (λ (w : ChunkWork F). Some (chunk_fold folding w.f (chunk_at w.count w.grain t))) is

  pub chunks_end_as : (run : FrameRun (ChunkWork F) V) (work : ChunkWork F) (f : F) (rows : List (ValueRow V)) → job_of run ≡ work → IsKept (chunk_job folding) run → IsFine (journal_of run) → f ≡ work.f → rows ≡ values_of run
      → EndWithChunks folding f work.count work.grain (journal_of run) rows
  chunks_end_as run work f rows is kept fine same also t below =
      ap (λ rs. last_value (journal_of run) rs t) also ∙ chunks_end run work is kept fine t below
      ∙ ap (λ g. Some (chunk_fold folding g (chunk_at work.count work.grain t))) (sym same)

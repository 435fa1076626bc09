-- Meanings that allow one answer, and meanings that don't.
use Rattle.std.proofs.Common.{◌≡◌, ℕ, zero, suc, ◌+◌, ◌≤◌, List, [], ◌∷◌, length, Bool, false, cond, count_by, Option, Some, None, Vec, refl, ap, sym, ◌∙◌, arith}
use Rattle.std.proofs.lemmas.List.Sums.{sum_by-cons}
use Rattle.std.specs.Global.{Global}
use Rattle.std.specs.declared.sync.Arc.{Arc}
use Rattle.std.specs.declared.vec.Vec.{ok-type, small-type}
use denote.RawPtr.{Ptr}
use denote.Hole.Carrier.{out, shown}
use Rattle.task_graph.specs.NetRows.{NetRows}
use Rattle.task_graph.specs.Net.{out_edges}
use Rattle.task_graph.specs.declared.net.Shape.TheVariants.{Plain, Nested}
use Rattle.journal_rules.specs.declared.entry.Cause.TheVariants.{Source}
use Rattle.journal_rules.specs.declared.entry.Why.{Why}
use Rattle.journal_rules.specs.declared.entry.Why.TheVariants.{Long}
use Rattle.journal_rules.specs.declared.entry.DropWhy.TheVariants.{Halted, Limit, Stuck}
use Rattle.journal_rules.specs.declared.entry.Entry.{Entry}
use Rattle.journal_rules.specs.declared.entry.Entry.TheVariants.{Start, End, Fault, Drop}
use Rattle.journal_rules.specs.ShapeLegal.{ShapeLegal}
use Rattle.journal_rules.specs.HaltLimitStuckRule.{is_stuck}
use Rattle.journal_rules.specs.Complete.{Complete, is_limited}
use Rattle.run_frame.specs.declared.job.Answer.TheVariants.{All, None as NoneOf}
use Rattle.run_frame.specs.declared.job.Done.{Done}
use Rattle.run_frame.specs.declared.job.Done.TheVariants.{Value, Inner as InnerJob}
use Rattle.run_frame.specs.declared.run.FrameRun.{FrameRun, FrameRun', end_of-InnerRow, out-FrameRun}
use Rattle.run_frame.specs.declared.run.FrameRun.TheBlock.{shown-the_row-InnerRow-0}
use Rattle.run_frame.specs.declared.run.InnerRow.{out-InnerRow}
use Rattle.join_words.specs.Ins.{InputValue}
use Rattle.run_frame.specs.Meaning.{Meaning}
use Rattle.run_frame.specs.Runs.{IsFine}
use Rattle.run_frame.specs.NestedRule.{job_of, journal_of}
use Rattle.run_frame.specs.WorkRule.{gives_of}
use Rattle.run_laws.specs.OneThreadValue.{TaskEnd, OneAnswer}
use Rattle.run_laws.specs.OneAnswer.{AllowsOne, InnerRunOf}
use Rattle.run_laws.specs.SmallNets.{four_tasks, adding, added, end}
use Rattle.run_laws.proofs.Runs.{legal_journal}

abbrev may_answer : ℕ → ℕ → List (InputValue ℕ) → Done ℕ ℕ → Type 0
may_answer j t found (Value n answer) = (n ≡ 1 + added found) × (answer ≡ All)
may_answer j t found (InnerJob k) = ⊥

abbrev pub adds_on : NetRows → Meaning ℕ ℕ
adds_on net = record {
  net = λ j. net;
  limit = λ j. 10;
  answers = may_answer;
  faults = λ j t found why. ⊥;
  gathers = λ j run n. ⊥;
  gather_faults = λ j run why. ⊥;
  follows = λ j run k. ⊥;
}

pub allows_one : (net : NetRows) → AllowsOne (adds_on net) 0 (adding net)
allows_one net = record {
  value = λ t found v answer is. ap (λ n. Some (end n (out_edges net t))) (sym is.0) ∙ ap (λ a. Some (end v (gives_of (out_edges net t) a))) (sym is.1);
  fault = λ t found why is. absurd is;
  inner_value = λ t found run v of_it fine gathered. absurd gathered;
  inner_fault = λ t found run of_it broken. absurd of_it.answered;
  gather_fault = λ t found run why of_it fine is. absurd is;
}

-- the value of an answer, and how many edges it gives
abbrev value_of : Option (TaskEnd ℕ) → ℕ
value_of None = 0
value_of (Some ended) = ended.value

abbrev edges_given : Option (TaskEnd ℕ) → ℕ
edges_given None = 0
edges_given (Some ended) = length ended.gives

-- A task that may also answer more, or signal nothing, or fault, has more than one answer.
abbrev may_answer_more : ℕ → ℕ → List (InputValue ℕ) → Done ℕ ℕ → Type 0
may_answer_more j t found (Value n answer) = (1 ≤ n) × (answer ≡ All)
may_answer_more j t found (InnerJob k) = ⊥

another_value_allowed : ¬ AllowsOne (record (adds_on four_tasks) { answers = may_answer_more }) 0 (adding four_tasks)
another_value_allowed is = let same : Some (end 1 []) ≡ Some (end 2 []) = is.value 3 [] 2 All (omega arith, refl) in absurd (omega (arith, ap value_of same))

abbrev may_hold_back : ℕ → ℕ → List (InputValue ℕ) → Done ℕ ℕ → Type 0
may_hold_back j t found (Value n answer) = n ≡ 1 + added found
may_hold_back j t found (InnerJob k) = ⊥

edges_held_back : ¬ AllowsOne (record (adds_on four_tasks) { answers = may_hold_back }) 0 (adding four_tasks)
edges_held_back is = let same : Some (end 1 (3 ∷ [])) ≡ Some (end 1 []) = is.value 2 [] 1 NoneOf refl in absurd (omega (arith, ap edges_given same))

fault_allowed : ¬ AllowsOne (record (adds_on four_tasks) { faults = λ j t found why. why ≡ Long 4 }) 0 (adding four_tasks)
fault_allowed is = let same : Some (end 1 []) ≡ None = is.fault 3 [] (Long 4) refl in absurd (cc)

-- ---- a run inside

abbrev no_tasks : NetRows
no_tasks = record { tasks = []; edges = []; sems = [] }

-- a nested task that leads to a plain one
abbrev two_tasks : NetRows
two_tasks = record {
  tasks = record { shape = Nested; takes = []; puts = [] } ∷ record { shape = Plain; takes = []; puts = [] } ∷ [];
  edges = record { from = 0; to = 1; start = false } ∷ [];
  sems = [];
}

-- Job 0 has nothing to do, so that its runs are fine. In runs of job 1 nothing may start, so that they are cut short.
-- The nested task of job 2 hands on job 0, and that of job 3 job 1. A run may be gathered to 7.
abbrev net_of_number : ℕ → NetRows
net_of_number zero = no_tasks
net_of_number (suc j) = two_tasks

abbrev limit_of_number : ℕ → ℕ
limit_of_number zero = 2
limit_of_number (suc zero) = 0
limit_of_number (suc (suc j)) = 2

abbrev hands_on : ℕ → ℕ → List (InputValue ℕ) → Done ℕ ℕ → Type 0
hands_on j t found (Value n answer) = ⊥
hands_on j zero found (InnerJob k) = j ≡ 2 + k
hands_on j (suc t) found (InnerJob k) = ⊥

abbrev nests_with : (FrameRun ℕ ℕ → Why → Type 0) → Meaning ℕ ℕ
nests_with gathering = record {
  net = net_of_number;
  limit = limit_of_number;
  answers = hands_on;
  faults = λ j t found why. ⊥;
  gathers = λ j run n. n ≡ 7;
  gather_faults = λ j run why. gathering run why;
  follows = λ j run k. ⊥;
}

-- gathering names no fault
abbrev nests : Meaning ℕ ℕ
nests = nests_with (λ run why. ⊥)

-- what the nested task of job 2 answers, and that of job 3
abbrev seven : OneAnswer ℕ
seven zero found = Some (end 7 (0 ∷ []))
seven (suc t) found = None

abbrev always_faults : OneAnswer ℕ
always_faults t found = None

-- A net without tasks has no journal but the empty one.
nothing_runs : (j : ℕ) (journal : List Entry) → 2 ≡ 2 + j → ShapeLegal (net_of_number j) (limit_of_number j) journal → IsFine journal
nothing_runs zero [] same shape = record { no_fault = refl; none_limited = refl; none_stuck = refl }
nothing_runs zero (Start task cause ins ∷ rest) same shape = absurd (omega (arith, shape.0.in_range.0))
nothing_runs zero (End start gives inner ∷ rest) same shape = let opened = shape.0.closing in absurd (cc)
nothing_runs zero (Fault start why ∷ rest) same shape = let opened = shape.0.closing in absurd (cc)
nothing_runs zero (Drop task cause why ∷ rest) same shape = absurd (omega (arith, shape.0.in_range.0))
nothing_runs (suc j) journal same shape = absurd (omega (arith, same))

count_one : (test : Entry → Bool) (entry : Entry) (rest : List Entry) → count_by test (entry ∷ rest) ≡ cond (test entry) 1 0 + count_by test rest
count_one test entry rest = sum_by-cons (λ e. cond (test e) 1 0) entry rest

-- Where nothing may start the source is dropped at the limit.
cut_short : (j : ℕ) (journal : List Entry) → 3 ≡ 2 + j → ShapeLegal (net_of_number j) (limit_of_number j) journal
    → Complete (net_of_number j) (limit_of_number j) journal → ¬ IsFine journal
cut_short zero journal same shape complete fine = absurd (omega (arith, same))
cut_short (suc zero) [] same shape complete fine = let used : 0 ≡ 1 = complete.sources.0 refl in absurd (omega (arith, used))
cut_short (suc zero) (Start task cause ins ∷ rest) same shape complete fine = absurd (omega (arith, shape.0.halt_limit_stuck.dropped))
cut_short (suc zero) (End start gives inner ∷ rest) same shape complete fine = let opened = shape.0.closing in absurd (cc)
cut_short (suc zero) (Fault start why ∷ rest) same shape complete fine = let opened = shape.0.closing in absurd (cc)
cut_short (suc zero) (Drop task cause Halted ∷ rest) same shape complete fine = absurd (omega (arith, shape.0.halt_limit_stuck.dropped))
cut_short (suc zero) (Drop task cause Limit ∷ rest) same shape complete fine = absurd (omega (arith, fine.none_limited, count_one is_limited (Drop task cause Limit) rest))
cut_short (suc zero) (Drop task cause (Stuck s) ∷ rest) same shape complete fine = absurd (omega (arith, fine.none_stuck, count_one is_stuck (Drop task cause (Stuck s)) rest))
cut_short (suc (suc j)) journal same shape complete fine = absurd (omega (arith, same))

-- Each legal and complete run of job 0 is fine, and leads to 7.
value_inside : AllowsOne nests 2 seven
value_inside = record {
  value = λ t found v answer is. absurd is;
  fault = λ t found why is. absurd is;
  inner_value = leads_to;
  inner_fault = never_cut;
  gather_fault = λ t found run why of_it fine is. absurd is;
}
  where
    leads_to : (t : ℕ) (found : List (InputValue ℕ)) (run : FrameRun ℕ ℕ) (v : ℕ) → InnerRunOf nests 2 t found run → IsFine (journal_of run) → v ≡ 7
        → seven t found ≡ Some (end v (out_edges two_tasks t))
    leads_to zero found run v of_it fine gathered = ap (λ n. Some (end n (0 ∷ []))) (sym gathered)
    leads_to (suc t) found run v of_it fine gathered = absurd of_it.answered

    never_cut : (t : ℕ) (found : List (InputValue ℕ)) (run : FrameRun ℕ ℕ) → InnerRunOf nests 2 t found run → ¬ IsFine (journal_of run) → seven t found ≡ None
    never_cut zero found run of_it broken = absurd (broken (nothing_runs (job_of run) (journal_of run) of_it.answered (legal_journal nests run of_it.legal).shape))
    never_cut (suc t) found run of_it broken = refl

-- Each one of job 1 is cut short, though it might be gathered.
fault_inside : AllowsOne nests 3 always_faults
fault_inside = record {
  value = λ t found v answer is. absurd is;
  fault = λ t found why is. absurd is;
  inner_value = never_fine;
  inner_fault = λ t found run of_it broken. refl;
  gather_fault = λ t found run why of_it fine is. absurd is;
}
  where
    never_fine : (t : ℕ) (found : List (InputValue ℕ)) (run : FrameRun ℕ ℕ) (v : ℕ) → InnerRunOf nests 3 t found run → IsFine (journal_of run) → v ≡ 7
        → always_faults t found ≡ Some (end v (out_edges two_tasks t))
    never_fine zero found run v of_it fine gathered =
        absurd (cut_short (job_of run) (journal_of run) of_it.answered (legal_journal nests run of_it.legal).shape of_it.complete fine)
    never_fine (suc t) found run v of_it fine gathered = absurd of_it.answered

-- Runs hold their inner runs in vectors: of none, wherever it stands in memory.
module _ (ptr : Ptr) (alloc : Global)
    (ok : ok-type (Unit {0}) Global ptr 0 0 alloc []) (small : small-type (Unit {0}) Global ptr 0 0 alloc [] ok)
  where
    abbrev none : Vec (Unit {0}) Global
    none = record { ptr = ptr; len = 0; cap = 0; alloc = alloc; items = []; ok = ok; small = small }

    abbrev the : ℕ → Arc ℕ Global
    the n = record { ptr = ptr; value = n }

    abbrev alone : ℕ → List Entry → FrameRun ℕ ℕ
    alone job journal = FrameRun' (the job) journal [] none end_of-InnerRow

    -- a run of job 0, and one of job 1
    finished_inside : (gathering : FrameRun ℕ ℕ → Why → Type 0) → InnerRunOf (nests_with gathering) 2 0 [] (alone 0 [])
    unfolding out-FrameRun out shown-the_row-InnerRow-0 shown out-InnerRow
    finished_inside gathering = record {
      answered = refl;
      legal = (
        record { shape = tt; found = tt; work = tt; nested = tt },
        record { values = refl; rising = λ i j d before below. absurd (omega arith); fit = λ k d below. absurd (omega arith) },
        tt,
      );
      complete = record { none_open = tt; sources = tt; weak = tt; strong = tt; limited = λ some. absurd (some refl) };
    }

    -- A value other than that to which a run inside was gathered, other edges than all, a fault, and a value where a
    -- run was cut short are not the one answer.
    other_value_inside : ¬ AllowsOne nests 2 (λ t found. Some (end 8 (0 ∷ [])))
    unfolding out-FrameRun out shown-the_row-InnerRow-0 shown out-InnerRow
    other_value_inside is =
        let same : Some (end 8 (0 ∷ [])) ≡ Some (end 7 (0 ∷ [])) = is.inner_value 0 [] (alone 0 []) 7 (finished_inside (λ run why. ⊥)) (record { no_fault = refl; none_limited = refl; none_stuck = refl }) refl in
        absurd (omega (arith, ap value_of same))

    other_edges_inside : ¬ AllowsOne nests 2 (λ t found. Some (end 7 []))
    unfolding out-FrameRun out shown-the_row-InnerRow-0 shown out-InnerRow
    other_edges_inside is =
        let same : Some (end 7 []) ≡ Some (end 7 (0 ∷ [])) = is.inner_value 0 [] (alone 0 []) 7 (finished_inside (λ run why. ⊥)) (record { no_fault = refl; none_limited = refl; none_stuck = refl }) refl in
        absurd (omega (arith, ap edges_given same))

    gathering_may_fault : ¬ AllowsOne (nests_with (λ run why. why ≡ Long 4)) 2 seven
    unfolding out-FrameRun out shown-the_row-InnerRow-0 shown out-InnerRow
    gathering_may_fault is =
        let same : Some (end 7 (0 ∷ [])) ≡ None = is.gather_fault 0 [] (alone 0 []) (Long 4) (finished_inside (λ run why. why ≡ Long 4)) (record { no_fault = refl; none_limited = refl; none_stuck = refl }) refl in
        absurd (cc)

    cut_inside : InnerRunOf nests 3 0 [] (alone 1 (Drop 0 Source Limit ∷ []))
    unfolding out-FrameRun out shown-the_row-InnerRow-0 shown out-InnerRow
    cut_inside = record {
      answered = refl;
      legal = (
        record {
          shape = (
            record {
              in_range = (omega arith, tt, tt);
              release = (refl, refl);
              closing = tt;
              choice = tt;
              semaphore = record { within = tt; over = tt };
              halt_limit_stuck = record { dropped = tt; after_stuck = λ other. refl };
            },
            tt,
          );
          found = (tt, tt);
          work = (tt, tt);
          nested = (refl, tt);
        },
        record { values = refl; rising = λ i j d before below. absurd (omega arith); fit = λ k d below. absurd (omega arith) },
        tt,
      );
      complete = record {
        none_open = (refl, tt);
        sources = (λ is. refl, (λ is. absurd (cc), tt));
        weak = (λ is. absurd (cc), tt);
        strong = (λ some. absurd (some refl), (λ some. refl, tt));
        limited = λ some. refl;
      };
    }

    value_of_a_cut_run : ¬ AllowsOne nests 3 (λ t found. Some (end 7 (0 ∷ [])))
    unfolding out-FrameRun out shown-the_row-InnerRow-0 shown out-InnerRow
    value_of_a_cut_run is =
        let same : Some (end 7 (0 ∷ [])) ≡ None = is.inner_fault 0 [] (alone 1 (Drop 0 Source Limit ∷ [])) cut_inside (λ fine. absurd (omega (arith, fine.none_limited))) in
        absurd (cc)

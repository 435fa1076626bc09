-- Whole runs, computed: one that holds an inner run is legal and complete, and each way of spoiling it is noticed.
use Rattle.std.proofs.Common.{◌≡◌, ℕ, zero, suc, ◌+◌, List, [], ◌∷◌, true, false, Some, None, refl, inl, arith, Vec, ap, length, get_or}
use Rattle.std.specs.List.{All}
use Rattle.std.specs.Prelude.{slice_get, IsSomeAnd}
use Rattle.std.specs.Global.{Global}
use Rattle.std.specs.declared.sync.Arc.{Arc}
use Rattle.std.specs.declared.vec.Vec.{ok-type, small-type}
use denote.RawPtr.{Ptr}
use Rattle.task_graph.specs.NetRows.{NetRows}
use Rattle.task_graph.specs.declared.net.Shape.TheVariants.{Plain, Nested}
use Rattle.journal_rules.specs.declared.entry.Cause.TheVariants.{Source, Strong}
use Rattle.journal_rules.specs.declared.entry.Part.TheVariants.{From, Nothing}
use Rattle.journal_rules.specs.declared.entry.Why.TheVariants.{Wide, Inner}
use Rattle.journal_rules.specs.declared.entry.DropWhy.TheVariants.{Limit}
use Rattle.journal_rules.specs.declared.entry.Entry.{Entry}
use Rattle.journal_rules.specs.declared.entry.Entry.TheVariants.{Start, End, Fault, Drop}
use Rattle.journal_rules.specs.ShapeLegal.{ShapeLegal, MeetsDataRule, MayFollow}
use Rattle.journal_rules.specs.Complete.{Complete}
use Rattle.join_words.specs.Ins.{InputValue}
use Rattle.run_frame.specs.declared.job.Answer.TheVariants.{All as Each}
use Rattle.run_frame.specs.declared.job.Done.{Done}
use Rattle.run_frame.specs.declared.job.Done.TheVariants.{Value, Inner as InnerJob}
use Rattle.run_frame.specs.declared.run.ValueRow.{ValueRow}
use Rattle.run_frame.specs.declared.run.FrameRun.{FrameRun, FrameRun', end_of-InnerRow, more_of-InnerRow, out-FrameRun}
use Rattle.run_frame.specs.declared.run.FrameRun.TheBlock.{shown-the_row-InnerRow-0}
use denote.Hole.Carrier.{out, shown}
use Rattle.run_frame.specs.declared.run.InnerRow.{InnerRow', out-InnerRow}
use Rattle.run_frame.specs.Meaning.{Meaning}
use Rattle.run_frame.specs.Rows.{RowsFit, MayHaveInner}
use Rattle.run_frame.specs.NestedRule.{NestedRule}
use Rattle.run_frame.specs.Legal.{Legal, LegalJournal, CompleteRun, IsKept, inner_at}

-- a nested task that leads to a plain one
abbrev two_tasks : NetRows
two_tasks = record {
  tasks = record { shape = Nested; takes = []; puts = [] } ∷ record { shape = Plain; takes = []; puts = [] } ∷ [];
  edges = record { from = 0; to = 1; start = false } ∷ [];
  sems = [];
}

abbrev no_tasks : NetRows
no_tasks = record { tasks = []; edges = []; sems = [] }

-- Jobs that are numbers. Job 0 has nothing to do; of each other the nested task hands on the number before, and the
-- plain one gives the job's own number. A run is gathered to its job's number.
abbrev net_of_number : ℕ → NetRows
net_of_number zero = no_tasks
net_of_number (suc j) = two_tasks

abbrev answers_of : ℕ → ℕ → List (InputValue ℕ) → Done ℕ ℕ → Type 0
answers_of j zero found (Value n answer) = ⊥
answers_of j zero found (InnerJob k) = j ≡ suc k
answers_of j (suc t) found (Value n answer) = (n ≡ j) × (answer ≡ Each)
answers_of j (suc t) found (InnerJob k) = ⊥

abbrev countdown : Meaning ℕ ℕ
countdown = record {
  net = net_of_number;
  limit = λ j. j + 1;
  answers = answers_of;
  faults = λ j t found why. ⊥;
  gathers = λ j run n. n ≡ j;
  gather_faults = λ j run why. why ≡ Wide j;
  follows = λ j run k. k ≡ j + 1;
}

-- a run of job 1: the nested task's run stands at its End, and the plain task finds what that run was gathered to
abbrev whole : List Entry
whole = Start 0 Source [] ∷ End 0 (0 ∷ []) true ∷ Start 1 Strong (From 1 ∷ []) ∷ End 2 [] false ∷ []

may_start : MayFollow two_tasks 2 [] (Start 0 Source [])
may_start = record {
  in_range = (omega arith, tt);
  release = (refl, refl);
  closing = tt;
  choice = tt;
  semaphore = record { within = tt; over = tt };
  halt_limit_stuck = record { dropped = omega arith; after_stuck = λ other. refl };
}

may_end : MayFollow two_tasks 2 (Start 0 Source [] ∷ []) (End 0 (0 ∷ []) true)
may_end = record {
  in_range = (omega arith, tt);
  release = tt;
  closing = refl;
  choice = (inl refl, tt);
  semaphore = record { within = tt; over = tt };
  halt_limit_stuck = record { dropped = tt; after_stuck = λ other. refl };
}

may_go_on : MayFollow two_tasks 2 (Start 0 Source [] ∷ End 0 (0 ∷ []) true ∷ []) (Start 1 Strong (From 1 ∷ []))
may_go_on = record {
  in_range = (omega arith, tt);
  release = (λ none. absurd (cc), (omega arith, tt));
  closing = tt;
  choice = tt;
  semaphore = record { within = tt; over = tt };
  halt_limit_stuck = record { dropped = omega arith; after_stuck = λ other. refl };
}

may_close : MayFollow two_tasks 2 (Start 0 Source [] ∷ End 0 (0 ∷ []) true ∷ Start 1 Strong (From 1 ∷ []) ∷ []) (End 2 [] false)
may_close = record {
  in_range = tt;
  release = tt;
  closing = refl;
  choice = (inl refl, refl);
  semaphore = record { within = tt; over = tt };
  halt_limit_stuck = record { dropped = tt; after_stuck = λ other. refl };
}

abbrev finds_nothing : List Entry
finds_nothing = Start 0 Source [] ∷ End 0 (0 ∷ []) true ∷ Start 1 Strong (Nothing ∷ []) ∷ End 2 [] false ∷ []

whole_shape : ShapeLegal two_tasks 2 whole
whole_shape = (may_start, (may_end, (may_go_on, (may_close, tt))))

whole_finds : MeetsDataRule two_tasks whole
whole_finds = (tt, (tt, ((record { found = (refl, refl); last = λ calm. refl }, tt), (tt, tt))))

whole_complete : Complete two_tasks 2 whole
whole_complete = record {
  none_open = (refl, (refl, (refl, (refl, tt))));
  sources = (λ is. refl, (λ is. absurd (cc), tt));
  weak = (λ is. absurd (cc), tt);
  strong = (λ some. absurd (some refl), (λ some. refl, tt));
  limited = λ some. absurd (some refl);
}

nothing_complete : Complete no_tasks 1 []
nothing_complete = record { none_open = tt; sources = tt; weak = tt; strong = tt; limited = λ some. absurd (some refl) }

-- what holds of one item holds of all items of the list of it
all_one : {X : Type 0} (P : X → Type 0) (x : X) → P x → All P (x ∷ [])
all_one P x here zero d below = here
all_one P x here (suc k) d below = absurd (omega arith)

-- an inner run may stand at this place
abbrev MayStandAt : List Entry → ℕ → Type 0
MayStandAt journal n = IsSomeAnd (slice_get journal n) MayHaveInner

-- Runs hold their inner runs in vectors: of none, one or two, wherever they stand in memory.
module _ (ptr : Ptr) (alloc : Global)
    (ok_none : ok-type (Unit {0}) Global ptr 0 0 alloc []) (small_none : small-type (Unit {0}) Global ptr 0 0 alloc [] ok_none)
    (ok_one : ok-type (Unit {0}) Global ptr 1 1 alloc (tt ∷ [])) (small_one : small-type (Unit {0}) Global ptr 1 1 alloc (tt ∷ []) ok_one)
    (ok_two : ok-type (Unit {0}) Global ptr 2 2 alloc (tt ∷ tt ∷ [])) (small_two : small-type (Unit {0}) Global ptr 2 2 alloc (tt ∷ tt ∷ []) ok_two)
  where
    abbrev none : Vec (Unit {0}) Global
    none = record { ptr = ptr; len = 0; cap = 0; alloc = alloc; items = []; ok = ok_none; small = small_none }

    abbrev one : Vec (Unit {0}) Global
    one = record { ptr = ptr; len = 1; cap = 1; alloc = alloc; items = tt ∷ []; ok = ok_one; small = small_one }

    abbrev two : Vec (Unit {0}) Global
    two = record { ptr = ptr; len = 2; cap = 2; alloc = alloc; items = tt ∷ tt ∷ []; ok = ok_two; small = small_two }

    abbrev the : ℕ → Arc ℕ Global
    the n = record { ptr = ptr; value = n }

    abbrev at : ℕ → ℕ → ValueRow ℕ
    at place n = record { place = place; value = the n }

    -- runs without, with one and with two inner runs: a job, a journal, values, and the inner runs with their places
    abbrev alone : ℕ → List Entry → List (ValueRow ℕ) → FrameRun ℕ ℕ
    alone job journal values = FrameRun' (the job) journal values none end_of-InnerRow

    abbrev with_one : ℕ → List Entry → List (ValueRow ℕ) → ℕ → FrameRun ℕ ℕ → FrameRun ℕ ℕ
    with_one job journal values place run = FrameRun' (the job) journal values one (more_of-InnerRow (InnerRow' place run) end_of-InnerRow)

    abbrev with_two : ℕ → List Entry → List (ValueRow ℕ) → ℕ → FrameRun ℕ ℕ → ℕ → FrameRun ℕ ℕ → FrameRun ℕ ℕ
    with_two job journal values place run other_place other =
        FrameRun' (the job) journal values two (more_of-InnerRow (InnerRow' place run) (more_of-InnerRow (InnerRow' other_place other) end_of-InnerRow))

    -- job 0's run, and job 1's run around it
    abbrev inside : FrameRun ℕ ℕ
    inside = alone 0 [] []

    abbrev around : FrameRun ℕ ℕ
    around = with_one 1 whole (at 1 0 ∷ at 3 1 ∷ []) 1 inside

    inside_kept : IsKept countdown inside
    unfolding out-FrameRun out shown-the_row-InnerRow-0 shown out-InnerRow
    inside_kept = record {
      legal = (
        record { shape = tt; found = tt; work = tt; nested = tt },
        record { values = refl; rising = λ i j d before below. absurd (omega arith); fit = λ k d below. absurd (omega arith) },
        tt,
      );
      complete = nothing_complete;
    }

    around_journal : LegalJournal countdown around
    unfolding out-FrameRun out shown-the_row-InnerRow-0 shown out-InnerRow
    around_journal = record {
      shape = whole_shape;
      found = whole_finds;
      work = (tt, (tt, (tt, (record { answer = Each; allowed = (refl, refl); chosen = refl }, tt))));
      nested = (refl, (record { answered = refl; fine = record { no_fault = refl; none_limited = refl; none_stuck = refl }; gathered = refl; all_edges = refl }, (refl, (tt, tt))));
    }

    around_rows : RowsFit around
    unfolding out-FrameRun out shown-the_row-InnerRow-0 shown out-InnerRow
    around_rows = record { values = refl; rising = λ i j d before below. absurd (omega arith); fit = all_one (MayStandAt whole) 1 refl }

    around_kept : IsKept countdown around
    unfolding out-FrameRun out shown-the_row-InnerRow-0 shown out-InnerRow
    around_kept = record { legal = (around_journal, around_rows, ((inside_kept.legal, inside_kept.complete), tt)); complete = whole_complete }

    -- Each part of a legal journal is asked for: the shape by the job's own net and limit, the inputs, the work and the
    -- inner runs.
    other_net : ¬ LegalJournal (record countdown { net = λ j. no_tasks }) around
    unfolding out-FrameRun out shown-the_row-InnerRow-0 shown out-InnerRow
    other_net is = absurd (omega (arith, is.shape.0.in_range.0))

    low_limit : ¬ LegalJournal (record countdown { limit = λ j. j }) around
    unfolding out-FrameRun out shown-the_row-InnerRow-0 shown out-InnerRow
    low_limit is = absurd (omega (arith, is.shape.1.1.0.halt_limit_stuck.dropped))

    nothing_found : ¬ LegalJournal countdown (with_one 1 finds_nothing (at 1 0 ∷ at 3 1 ∷ []) 1 inside)
    unfolding out-FrameRun out shown-the_row-InnerRow-0 shown out-InnerRow
    nothing_found is = let last : Nothing ≡ From 1 = is.found.1.1.0.0.last (omega arith, (omega arith, (omega arith, tt))) in absurd (cc)

    other_value : ¬ LegalJournal countdown (with_one 1 whole (at 1 0 ∷ at 3 7 ∷ []) 1 inside)
    unfolding out-FrameRun out shown-the_row-InnerRow-0 shown out-InnerRow
    other_value is = absurd (omega (arith, is.work.1.1.1.0.allowed.0))

    other_job : ¬ LegalJournal countdown (with_one 2 whole (at 1 0 ∷ at 3 2 ∷ []) 1 inside)
    unfolding out-FrameRun out shown-the_row-InnerRow-0 shown out-InnerRow
    other_job is = absurd (omega (arith, is.nested.1.0.answered))

    no_inner_run : ¬ LegalJournal countdown (alone 1 whole (at 1 0 ∷ at 3 1 ∷ []))
    unfolding out-FrameRun out shown-the_row-InnerRow-0 shown out-InnerRow
    no_inner_run is = is.nested.1.0

    inner_run_elsewhere : ¬ LegalJournal countdown (with_one 1 whole (at 1 0 ∷ at 3 1 ∷ []) 0 inside)
    unfolding out-FrameRun out shown-the_row-InnerRow-0 shown out-InnerRow
    inner_run_elsewhere is = absurd (cc)

    -- The run inside is held to all of it: it is finished, legal, and its rows fit; so is a second one.
    open_inside : ¬ Legal countdown (with_one 2 whole (at 1 1 ∷ at 3 2 ∷ []) 1 (alone 1 (Start 0 Source [] ∷ []) []))
    unfolding out-FrameRun out shown-the_row-InnerRow-0 shown out-InnerRow
    open_inside is = let closed : true ≡ false = is.2.0.1.none_open.0 in absurd (cc)

    release_left_inside : ¬ Legal countdown (with_one 2 whole (at 1 1 ∷ at 3 2 ∷ []) 1 (alone 1 [] []))
    unfolding out-FrameRun out shown-the_row-InnerRow-0 shown out-InnerRow
    release_left_inside is = let used : 0 ≡ 1 = is.2.0.1.sources.0 refl in absurd (omega (arith, used))

    illegal_inside : ¬ Legal countdown (with_one 1 whole (at 1 0 ∷ at 3 1 ∷ []) 1 (alone 0 (End 0 [] false ∷ []) (at 0 0 ∷ [])))
    unfolding out-FrameRun out shown-the_row-InnerRow-0 shown out-InnerRow
    illegal_inside is = let opened : false ≡ true = is.2.0.0.0.shape.0.closing in absurd (cc)

    two_values_inside : ¬ Legal countdown (with_one 2 whole (at 1 1 ∷ at 3 2 ∷ []) 1 (with_one 1 whole (at 1 0 ∷ at 1 0 ∷ at 3 1 ∷ []) 1 inside))
    unfolding out-FrameRun out shown-the_row-InnerRow-0 shown out-InnerRow
    two_values_inside is = let same : 1 ∷ 1 ∷ 3 ∷ [] ≡ 1 ∷ 3 ∷ [] = is.2.0.0.1.values in let longer : 3 ≡ 2 = ap length same in absurd (omega (arith, longer))

    illegal_second : ¬ Legal countdown (with_two 1 whole (at 1 0 ∷ at 3 1 ∷ []) 1 inside 3 (alone 0 (End 0 [] false ∷ []) (at 0 0 ∷ [])))
    unfolding out-FrameRun out shown-the_row-InnerRow-0 shown out-InnerRow
    illegal_second is = let opened : false ≡ true = is.2.1.0.0.0.shape.0.closing in absurd (cc)

    -- Rows fit where each End has one value, in order, and inner runs rise and stand at inner Ends and Faults.
    value_missing : ¬ RowsFit (with_one 1 whole (at 1 0 ∷ []) 1 inside)
    unfolding out-FrameRun out shown-the_row-InnerRow-0 shown out-InnerRow
    value_missing is = let shorter : 1 ≡ 2 = ap length is.values in absurd (omega (arith, shorter))

    values_fall : ¬ RowsFit (with_one 1 whole (at 3 1 ∷ at 1 0 ∷ []) 1 inside)
    unfolding out-FrameRun out shown-the_row-InnerRow-0 shown out-InnerRow
    values_fall is = let first : 3 ≡ 1 = ap (λ (ns : List ℕ). get_or ns 0 0) is.values in absurd (omega (arith, first))

    value_of_a_start : ¬ RowsFit (with_one 1 whole (at 1 0 ∷ at 2 1 ∷ []) 1 inside)
    unfolding out-FrameRun out shown-the_row-InnerRow-0 shown out-InnerRow
    value_of_a_start is = let second : 2 ≡ 3 = ap (λ (ns : List ℕ). get_or ns 1 0) is.values in absurd (omega (arith, second))

    two_inner_runs_at_one_place : ¬ RowsFit (with_two 1 whole (at 1 0 ∷ at 3 1 ∷ []) 1 inside 1 inside)
    unfolding out-FrameRun out shown-the_row-InnerRow-0 shown out-InnerRow
    two_inner_runs_at_one_place is = absurd (omega (arith, is.rising 0 1 0 (omega arith) (omega arith)))

    inner_run_at_a_plain_end : ¬ RowsFit (with_one 1 whole (at 1 0 ∷ at 3 1 ∷ []) 3 inside)
    unfolding out-FrameRun out shown-the_row-InnerRow-0 shown out-InnerRow
    inner_run_at_a_plain_end is = let inner : false ≡ true = is.fit 0 0 (omega arith) in absurd (cc)

    inner_run_at_a_start : ¬ RowsFit (with_one 1 whole (at 1 0 ∷ at 3 1 ∷ []) 2 inside)
    unfolding out-FrameRun out shown-the_row-InnerRow-0 shown out-InnerRow
    inner_run_at_a_start is = is.fit 0 0 (omega arith)

    inner_run_at_a_drop : ¬ RowsFit (with_one 1 (Drop 0 Source Limit ∷ []) [] 0 inside)
    unfolding out-FrameRun out shown-the_row-InnerRow-0 shown out-InnerRow
    inner_run_at_a_drop is = is.fit 0 0 (omega arith)

    inner_run_past_the_end : ¬ RowsFit (with_one 1 whole (at 1 0 ∷ at 3 1 ∷ []) 4 inside)
    unfolding out-FrameRun out shown-the_row-InnerRow-0 shown out-InnerRow
    inner_run_past_the_end is = is.fit 0 0 (omega arith)

    inner_run_at_a_fault : RowsFit (with_one 1 (Start 0 Source [] ∷ Fault 0 Inner ∷ []) [] 1 inside)
    unfolding out-FrameRun out shown-the_row-InnerRow-0 shown out-InnerRow
    inner_run_at_a_fault = record { values = refl; rising = λ i j d before below. absurd (omega arith); fit = all_one (MayStandAt (Start 0 Source [] ∷ Fault 0 Inner ∷ [])) 1 tt }

    -- Whether a run is finished goes by its job's net and limit.
    limited_at_its_limit : CompleteRun (record countdown { limit = λ j. 0 }) (alone 1 (Drop 0 Source Limit ∷ []) [])
    unfolding out-FrameRun out shown-the_row-InnerRow-0 shown out-InnerRow
    limited_at_its_limit = record {
      none_open = (refl, tt);
      sources = (λ is. refl, (λ is. absurd (cc), tt));
      weak = (λ is. absurd (cc), tt);
      strong = (λ some. absurd (some refl), (λ some. refl, tt));
      limited = λ some. refl;
    }

    limited_before_its_limit : ¬ CompleteRun countdown (alone 1 (Drop 0 Source Limit ∷ []) [])
    unfolding out-FrameRun out shown-the_row-InnerRow-0 shown out-InnerRow
    limited_before_its_limit is = let made : 0 ≡ 2 = is.limited (λ none. absurd (omega (arith, none))) in absurd (omega (arith, made))

    kept_needs_an_end : ¬ IsKept countdown (alone 1 [] [])
    unfolding out-FrameRun out shown-the_row-InnerRow-0 shown out-InnerRow
    kept_needs_an_end is = let used : 0 ≡ 1 = is.complete.sources.0 refl in absurd (omega (arith, used))

    kept_needs_its_rules : ¬ IsKept countdown (alone 1 whole (at 1 0 ∷ at 3 1 ∷ []))
    unfolding out-FrameRun out shown-the_row-InnerRow-0 shown out-InnerRow
    kept_needs_its_rules is = is.legal.0.nested.1.0

    -- Each inner run is looked up by its own place, and a place between them has none.
    abbrev two_inside : FrameRun ℕ ℕ
    two_inside = with_two 1 whole (at 1 0 ∷ at 3 1 ∷ []) 1 inside 3 around

    second_run : inner_at two_inside 3 ≡ Some around
    unfolding out-FrameRun out shown-the_row-InnerRow-0 shown out-InnerRow
    second_run = refl

    no_run_between : inner_at two_inside 2 ≡ None
    unfolding out-FrameRun out shown-the_row-InnerRow-0 shown out-InnerRow
    no_run_between = refl

    -- Only the task that hands on a job has an inner run.
    inner_end_of_plain_task : ¬ NestedRule countdown 1 (at 1 0 ∷ []) (inner_at around) (Start 1 Strong [] ∷ []) (End 0 [] true)
    unfolding out-FrameRun out shown-the_row-InnerRow-0 shown out-InnerRow
    inner_end_of_plain_task is = is.answered

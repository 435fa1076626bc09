-- What the laws ask of a run and say of it, on a run of two tasks in a row and on rings.
use Rattle.std.proofs.Common.{◌≡◌, ℕ, zero, suc, ◌<◌, ◌==◌, List, [], ◌∷◌, true, false, Some, None, Vec, slice_get, if◌then◌else◌, refl, inl, ap, arith}
use Rattle.std.specs.List.{All}
use Rattle.std.specs.Global.{Global}
use Rattle.std.specs.declared.sync.Arc.{Arc}
use Rattle.std.specs.declared.vec.Vec.{ok-type, small-type}
use denote.RawPtr.{Ptr}
use denote.Hole.Carrier.{out, shown}
use Rattle.task_graph.specs.NetRows.{NetRows}
use Rattle.task_graph.specs.Net.{IsEdgeOf, IsNet, IsTaskOf, is_weak}
use Rattle.task_graph.specs.declared.net.Shape.TheVariants.{Plain}
use Rattle.task_graph.specs.declared.net.TaskRow.{TaskRow}
use Rattle.journal_rules.specs.declared.entry.Cause.TheVariants.{Source, Strong}
use Rattle.journal_rules.specs.declared.entry.Part.TheVariants.{From}
use Rattle.journal_rules.specs.declared.entry.Entry.{Entry}
use Rattle.journal_rules.specs.declared.entry.Entry.TheVariants.{Start, End}
use Rattle.journal_rules.specs.Counts.{first_tokens}
use Rattle.journal_rules.specs.Entries.{EachAfter}
use Rattle.journal_rules.specs.SemaphoreRule.{takes, puts}
use Rattle.journal_rules.specs.ShapeLegal.{MayFollow, MeetsDataRule, ShapeLegal}
use Rattle.journal_rules.specs.Complete.{Complete}
use Rattle.join_words.specs.Ins.{InputValue}
use Rattle.run_frame.specs.declared.job.Answer.TheVariants.{All as Each}
use Rattle.run_frame.specs.declared.run.FrameRun.{FrameRun, FrameRun', end_of-InnerRow, out-FrameRun}
use Rattle.run_frame.specs.declared.run.FrameRun.TheBlock.{shown-the_row-InnerRow-0}
use Rattle.run_frame.specs.declared.run.InnerRow.{out-InnerRow}
use Rattle.run_frame.specs.Runs.{IsFine}
use Rattle.run_frame.specs.NestedRule.{journal_of}
use Rattle.run_frame.specs.Legal.{CompleteRun, Legal}
use Rattle.run_laws.specs.OneThreadValue.{TaskEnd, OneAnswer, one_thread_value}
use Rattle.run_laws.specs.Starts.{HasFault}
use Rattle.run_laws.specs.Prefixes.{IsPrefixOf}
use Rattle.run_laws.specs.Steady.{Steady}
use Rattle.pipe_lines.specs.PipeNet.{pipe_net}
use Rattle.run_laws.specs.Cycles.{GoesRound}
use Rattle.run_laws.specs.Laws.{HasNoOtherValues, HasOneThreadValues, IsDecided, IsGraphRun, IsInTurn, IsSteadyRun, PipesGoRound, RingsGoRound, ValuesGrow, run_ends}
use Rattle.run_laws.specs.SmallNets.{adding, end, two_in_a_ring}
use Rattle.run_laws.proofs.WorkedLaws.{cycle_of_two, first_two, ring_is_ringed}
use Rattle.run_laws.proofs.WorkedMeaning.{adds_on, allows_one}

abbrev free : TaskRow
free = record { shape = Plain; takes = []; puts = [] }

-- two tasks in a row
abbrev row : NetRows
row = record { tasks = free ∷ free ∷ []; edges = record { from = 0; to = 1; start = false } ∷ []; sems = [] }

abbrev along_the_row : List Entry
along_the_row = Start 0 Source [] ∷ End 0 (0 ∷ []) false ∷ Start 1 Strong (From 1 ∷ []) ∷ End 2 [] false ∷ []

may_start : MayFollow row 10 [] (Start 0 Source [])
may_start = record {
  in_range = (omega arith, tt);
  release = (refl, refl);
  closing = tt;
  choice = tt;
  semaphore = record { within = tt; over = tt };
  halt_limit_stuck = record { dropped = omega arith; after_stuck = λ other. refl };
}

may_end : MayFollow row 10 (Start 0 Source [] ∷ []) (End 0 (0 ∷ []) false)
may_end = record {
  in_range = (omega arith, tt);
  release = tt;
  closing = refl;
  choice = (inl refl, refl);
  semaphore = record { within = tt; over = tt };
  halt_limit_stuck = record { dropped = tt; after_stuck = λ other. refl };
}

may_go_on : MayFollow row 10 (Start 0 Source [] ∷ End 0 (0 ∷ []) false ∷ []) (Start 1 Strong (From 1 ∷ []))
may_go_on = record {
  in_range = (omega arith, tt);
  release = (λ none. absurd (cc), (omega arith, tt));
  closing = tt;
  choice = tt;
  semaphore = record { within = tt; over = tt };
  halt_limit_stuck = record { dropped = omega arith; after_stuck = λ other. refl };
}

may_close : MayFollow row 10 (Start 0 Source [] ∷ End 0 (0 ∷ []) false ∷ Start 1 Strong (From 1 ∷ []) ∷ []) (End 2 [] false)
may_close = record {
  in_range = tt;
  release = tt;
  closing = refl;
  choice = (inl refl, refl);
  semaphore = record { within = tt; over = tt };
  halt_limit_stuck = record { dropped = tt; after_stuck = λ other. refl };
}

row_shape : ShapeLegal row 10 along_the_row
row_shape = (may_start, (may_end, (may_go_on, (may_close, tt))))

row_finds : MeetsDataRule row along_the_row
row_finds = (tt, (tt, ((record { found = (refl, refl); last = λ calm. refl }, tt), (tt, tt))))

row_complete : Complete row 10 along_the_row
row_complete = record {
  none_open = (refl, (refl, (refl, (refl, tt))));
  sources = (λ is. refl, (λ is. absurd (cc), tt));
  weak = (λ is. absurd (cc), tt);
  strong = (λ some. absurd (some refl), (λ some. refl, tt));
  limited = λ some. absurd (some refl);
}

row_is_net : IsNet row
row_is_net = record { tasks = tasks; edges = edges; sems = λ k d below. absurd (omega arith); task_count = omega arith; edge_count = omega arith; sem_count = omega arith }
  where
    of_free : IsTaskOf row free
    of_free = record {
      takes = record { rising = λ i below. absurd (omega arith); in_range = λ k d below. absurd (omega arith) };
      puts = record { rising = λ i below. absurd (omega arith); in_range = λ k d below. absurd (omega arith) };
    }

    tasks : All (IsTaskOf row) row.tasks
    tasks zero d below = of_free
    tasks (suc zero) d below = of_free
    tasks (suc (suc k)) d below = absurd (omega arith)

    edges : All (IsEdgeOf row) row.edges
    edges zero d below = record { from_in_range = omega arith; to_in_range = omega arith; starts_strong = λ begins. absurd (cc) }
    edges (suc k) d below = absurd (omega arith)

row_is_strong : (e : ℕ) → is_weak row e ≡ false
row_is_strong zero = refl
row_is_strong (suc e) = refl

row_has_no_first : (e : ℕ) → first_tokens row e ≡ 0
row_has_no_first zero = refl
row_has_no_first (suc e) = refl

row_returns : (s t : ℕ) → takes row s t ≡ puts row s t
row_returns s zero = refl
row_returns s (suc zero) = refl
row_returns s (suc (suc t)) = refl

row_is_steady : Steady row along_the_row
row_is_steady = record {
  calm = ((omega arith, (omega arith, (omega arith, (omega arith, (omega arith, tt))))), tt);
  single = (record { none_open = tt; none_stopped = refl }, (tt, (record { none_open = (refl, (refl, tt)); none_stopped = refl }, (tt, tt))));
}

abbrev first_value : List (TaskEnd ℕ) → ℕ
first_value [] = 0
first_value (ended ∷ more) = ended.value

-- the second task answers 9
abbrev nine_at_last : OneAnswer ℕ
nine_at_last t found = if t == 1 then Some (end 9 []) else adding row t found

row_never_faults : ¬ HasFault row (adding row) 2
row_never_faults is = by_task is.task is.round is.faults
  where
    by_task : (t : ℕ) (round : List (InputValue ℕ)) → adding row t round ≡ None → ⊥
    by_task t round fault = absurd (cc)

-- A run of these entries and values; runs hold their inner runs in vectors, here of none, wherever it stands in memory.
module _ (ptr : Ptr) (alloc : Global)
    (ok : ok-type (Unit {0}) Global ptr 0 0 alloc []) (small : small-type (Unit {0}) Global ptr 0 0 alloc [] ok)
  where
    abbrev nothing_inside : Vec (Unit {0}) Global
    nothing_inside = record { ptr = ptr; len = 0; cap = 0; alloc = alloc; items = []; ok = ok; small = small }

    abbrev the : ℕ → Arc ℕ Global
    the n = record { ptr = ptr; value = n }

    abbrev row_run : FrameRun ℕ ℕ
    row_run = FrameRun' (the 0) along_the_row ((record { place = 1; value = the 1 }) ∷ (record { place = 3; value = the 2 }) ∷ []) nothing_inside end_of-InnerRow

    row_is_legal : Legal (adds_on row) row_run
    unfolding out-FrameRun out shown-the_row-InnerRow-0 shown out-InnerRow
    row_is_legal = (
      record {
        shape = row_shape;
        found = row_finds;
        work = (tt, (record { answer = Each; allowed = (refl, refl); chosen = refl }, (tt, (record { answer = Each; allowed = (refl, refl); chosen = refl }, tt))));
        nested = (refl, (tt, (refl, (tt, tt))));
      },
      record { values = refl; rising = λ i j d before below. absurd (omega arith); fit = λ k d below. absurd (omega arith) },
      tt,
    )

    row_is_a_graph_run : IsGraphRun (adds_on row) row_run (adding row)
    unfolding out-FrameRun out shown-the_row-InnerRow-0 shown out-InnerRow
    row_is_a_graph_run = record {
      net = row_is_net;
      once = record { strong = row_is_strong; no_first = row_has_no_first };
      returns = row_returns;
      one_answer = allows_one row;
      legal = row_is_legal;
      complete = row_complete;
    }

    row_is_a_steady_run : IsSteadyRun (adds_on row) row_run (adding row)
    unfolding out-FrameRun out shown-the_row-InnerRow-0 shown out-InnerRow
    row_is_a_steady_run = record {
      net = row_is_net;
      strong = row_is_strong;
      one_answer = allows_one row;
      legal = row_is_legal;
      steady = row_is_steady;
    }

    -- The run is decided by what its tasks answer, and by its own limit: its second value is 2, and two tasks start.
    row_is_decided : IsDecided (adds_on row) row_run (adding row)
    unfolding out-FrameRun out shown-the_row-InnerRow-0 shown out-InnerRow
    row_is_decided = record {
      fine = (λ fine. record { no_fault = row_never_faults; few = omega arith }, λ through. record { no_fault = refl; none_limited = refl; none_stuck = refl });
      values = values;
    }
      where
        values : IsFine along_the_row → (t : ℕ) → t < 2 → run_ends row_run t ≡ one_thread_value row (adding row) 2 t
        values fine zero below = refl
        values fine (suc zero) below = refl
        values fine (suc (suc t)) below = absurd (omega (arith, below))

    second_value_is_another : ¬ IsDecided (adds_on row) row_run nine_at_last
    unfolding out-FrameRun out shown-the_row-InnerRow-0 shown out-InnerRow
    second_value_is_another is =
        let same : end 2 [] ∷ [] ≡ end 9 [] ∷ [] = is.values (record { no_fault = refl; none_limited = refl; none_stuck = refl }) 1 (omega arith) in
        absurd (omega (arith, ap first_value same))

    limit_of_one : ¬ IsDecided (record (adds_on row) { limit = λ j. 1 }) row_run (adding row)
    unfolding out-FrameRun out shown-the_row-InnerRow-0 shown out-InnerRow
    limit_of_one is = absurd (omega (arith, (is.fine.0 (record { no_fault = refl; none_limited = refl; none_stuck = refl })).few))

-- What the laws say of each run of the ring of two tasks, in which task 0 has two values.
abbrev ring : NetRows
ring = two_in_a_ring

second_value_by_law : (run : FrameRun ℕ ℕ) → HasOneThreadValues (adds_on ring) run → IsSteadyRun (adds_on ring) run (adding ring)
    → (w : TaskEnd ℕ) → slice_get (run_ends run 0) 1 ≡ Some w → w ≡ end 3 (0 ∷ [])
second_value_by_law run law steady w at = law (adding ring) steady 4 0 1 (end 3 (0 ∷ [])) w refl at

both_values_by_law : (run : FrameRun ℕ ℕ) → HasNoOtherValues (adds_on ring) run → IsSteadyRun (adds_on ring) run (adding ring) → CompleteRun (adds_on ring) run
    → IsFine (journal_of run) → IsPrefixOf (end 1 (0 ∷ []) ∷ end 3 (0 ∷ []) ∷ []) (run_ends run 0)
both_values_by_law run law steady complete fine = law (adding ring) steady complete fine 4 0 (omega arith)

one_value_before_two : ValuesGrow ℕ → IsPrefixOf (end 1 (0 ∷ []) ∷ []) (one_thread_value ring (adding ring) 4 0)
one_value_before_two law = law ring (adding ring) 1 3 0

ring_by_law : RingsGoRound ring → (limit : ℕ) (journal : List Entry) → ShapeLegal ring limit journal → EachAfter (GoesRound 2 (λ l. l) first_two) journal
ring_by_law law limit journal legal = law limit 2 (λ l. l) first_two journal ring_is_ringed cycle_of_two legal

pipes_by_law : PipesGoRound 2 (true ∷ false ∷ []) → (limit : ℕ) (journal : List Entry) → ShapeLegal (pipe_net 2 (true ∷ false ∷ [])) limit journal
    → IsInTurn 2 (true ∷ false ∷ []) journal
pipes_by_law law limit journal legal = law limit journal (omega arith) (omega arith) legal

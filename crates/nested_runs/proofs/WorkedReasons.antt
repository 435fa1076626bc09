-- Reasons and totals of runs, and nets of parts, computed on small ones.
use Rattle.std.proofs.Common.{◌≡◌, ◌∙◌, ap, ℕ, ◌+◌, refl, Some, None, [], ◌∷◌, List, true, false, Vec, length, arith}
use Rattle.std.specs.Prelude.{sum}
use Rattle.std.specs.Arc.{arc_value}
use Rattle.std.specs.Global.{Global}
use Rattle.std.specs.declared.sync.Arc.{Arc}
use Rattle.std.specs.declared.vec.Vec.{ok-type, small-type}
use denote.Hole.Carrier.{out, shown}
use denote.RawPtr.{Ptr}
use Rattle.journal_rules.specs.declared.entry.Cause.TheVariants.{Source, Strong}
use Rattle.journal_rules.specs.declared.entry.DropWhy.TheVariants.{Halted, Limit as AtLimit, Stuck as WantsUnit}
use Rattle.journal_rules.specs.declared.entry.Entry.{Entry}
use Rattle.journal_rules.specs.declared.entry.Entry.TheVariants.{Start, End, Fault as FaultEntry, Drop}
use Rattle.journal_rules.specs.declared.entry.Why.TheVariants.{Long, Inner}
use Rattle.task_graph.specs.NetRows.{NetRows}
use Rattle.task_graph.specs.declared.net.Shape.{Shape}
use Rattle.task_graph.specs.declared.net.Shape.TheVariants.{Plain, Nested}
use Rattle.task_graph.specs.declared.net.TaskRow.{TaskRow}
use Rattle.run_frame.specs.Meaning.{Meaning}
use Rattle.run_frame.specs.declared.run.FrameRun.{FrameRun, FrameRun', end_of-InnerRow, more_of-InnerRow, out-FrameRun}
use Rattle.run_frame.specs.declared.run.FrameRun.TheBlock.{shown-the_row-InnerRow-0}
use Rattle.run_frame.specs.declared.run.FrameRun.TheOpen.{FrameRun-F, InnerRow-F}
use Rattle.run_frame.specs.declared.run.FrameRun.TheFolds.{fold_out-FrameRun, fold_out-InnerRow}
use Rattle.run_frame.specs.declared.run.InnerRow.{InnerRow', out-InnerRow}
use Rattle.nested_runs.specs.Reasons.{first_fault, first_stuck, unfaulted, faulted, reason_at, reason_step, row_step, run_reason}
use Rattle.nested_runs.specs.Spreads.{IsSpreadNet, RefusesSpread}
use Rattle.nested_runs.specs.Totals.{all_spans, is_span, row_number, spans_of_row, spans_step, starts_inside, starts_of_row, starts_step}
use Rattle.nested_runs.specs.declared.spread.SpreadError.TheVariants.{TooWide, NoMemory}
use Rattle.nested_runs.specs.declared.reasons.Reason.{Reason}
use Rattle.nested_runs.specs.declared.reasons.Reason.TheVariants.{Fine, Fault, Limit, Stuck}

-- two starts, of tasks 4 and 7, of which the second faults first; then a drop
abbrev two_faults : List Entry
two_faults = Start 4 Source [] ∷ Start 7 Source [] ∷ FaultEntry 1 (Long 9) ∷ FaultEntry 0 (Long 8) ∷ Drop 5 Strong Halted ∷ []

-- The Fault that stands first counts, with its own start.
first_of_two : first_fault two_faults ≡ Some (record { place = 2; start = 1; why = Long 9 })
first_of_two = refl

fault_behind_other_entries : first_fault (Start 4 Source [] ∷ End 0 [] false ∷ Drop 5 Strong AtLimit ∷ Start 7 Source [] ∷ FaultEntry 3 (Long 9) ∷ []) ≡ Some (record { place = 4; start = 3; why = Long 9 })
fault_behind_other_entries = refl

no_fault : first_fault (Start 4 Source [] ∷ End 0 [] false ∷ Drop 5 Strong AtLimit ∷ []) ≡ None
no_fault = refl

-- Of the Drops those for want of a unit count, and the first of them.
first_that_waits : first_stuck (Drop 3 Strong Halted ∷ Drop 2 Source (WantsUnit 0) ∷ Drop 1 Source (WantsUnit 0) ∷ []) ≡ Some 2
first_that_waits = refl

none_waits : first_stuck (Start 4 Source [] ∷ Drop 3 Strong AtLimit ∷ []) ≡ None
none_waits = refl

-- Without a Fault: at the limit before stuck before fine.
limited : unfaulted 10 (Drop 2 Source (WantsUnit 0) ∷ Drop 3 Strong AtLimit ∷ []) ≡ Limit [] 10
limited = refl

stuck : unfaulted 10 (Drop 3 Strong Halted ∷ Drop 2 Source (WantsUnit 0) ∷ []) ≡ Stuck (2 ∷ [])
stuck = refl

fine : unfaulted 10 (Start 4 Source [] ∷ End 0 [] false ∷ []) ≡ Fine
fine = refl

-- A Fault is told with its task alone, also beside a run; one that tells of that run as the run's reason, behind the
-- task.
own_fault : faulted 4 (Long 9) (Some (Limit [] 3)) ≡ Fault (4 ∷ []) (Long 9)
own_fault = refl

inner_fault : faulted 4 Inner (Some (Fault (6 ∷ []) (Long 9))) ≡ Fault (4 ∷ 6 ∷ []) (Long 9)
inner_fault = refl

inner_limit : faulted 4 Inner (Some (Limit [] 3)) ≡ Limit (4 ∷ []) 3
inner_limit = refl

inner_stuck : faulted 4 Inner (Some (Stuck (6 ∷ []))) ≡ Stuck (4 ∷ 6 ∷ [])
inner_stuck = refl

inner_fine : faulted 4 Inner (Some Fine) ≡ Fine
inner_fine = refl

inner_without_run : faulted 4 Inner None ≡ Fault (4 ∷ []) Inner
inner_without_run = refl

-- The reason inside is that of the row at the Fault's own place.
second_row : reason_at ((1, Fine) ∷ (3, Limit [] 2) ∷ []) 3 ≡ Some (Limit [] 2)
second_row = refl

first_row_of_two : reason_at ((1, Fine) ∷ (1, Limit [] 2) ∷ []) 1 ≡ Some Fine
first_row_of_two = refl

no_row : reason_at ((1, Fine) ∷ (3, Limit [] 2) ∷ []) 2 ≡ None
no_row = refl

-- The reason of a run: its first Fault by the task that was started there; else what its own limit and its Drops say.
module _ {J V : Type 0} (meaning : Meaning J V) (run : FrameRun-F J V Reason (ℕ × Reason)) where
  fault_of_the_second_start : reason_step meaning (record run { journal = two_faults }) ≡ Fault (7 ∷ []) (Long 9)
  fault_of_the_second_start = refl

  fault_of_no_start : reason_step meaning (record run { journal = FaultEntry 9 (Long 8) ∷ [] }) ≡ Fault (0 ∷ []) (Long 8)
  fault_of_no_start = refl

  own_limit : reason_step meaning (record run { journal = Drop 3 Strong AtLimit ∷ [] }) ≡ Limit [] (meaning.limit (arc_value run.job))
  own_limit = refl

-- The reason of a run with runs inside, each of which is looked at in turn. Runs hold their inner runs in vectors: of
-- none or one, wherever they stand in memory.
module _ (m : Meaning ℕ ℕ) (ptr : Ptr) (alloc : Global)
    (ok_none : ok-type (Unit {0}) Global ptr 0 0 alloc []) (small_none : small-type (Unit {0}) Global ptr 0 0 alloc [] ok_none)
    (ok_one : ok-type (Unit {0}) Global ptr 1 1 alloc (tt ∷ [])) (small_one : small-type (Unit {0}) Global ptr 1 1 alloc (tt ∷ []) ok_one)
  where
    abbrev none : Vec (Unit {0}) Global
    none = record { ptr = ptr; len = 0; cap = 0; alloc = alloc; items = []; ok = ok_none; small = small_none }

    abbrev one : Vec (Unit {0}) Global
    one = record { ptr = ptr; len = 1; cap = 1; alloc = alloc; items = tt ∷ []; ok = ok_one; small = small_one }

    abbrev the : ℕ → Arc ℕ Global
    the n = record { ptr = ptr; value = n }

    abbrev alone : ℕ → List Entry → FrameRun ℕ ℕ
    alone job journal = FrameRun' (the job) journal [] none end_of-InnerRow

    abbrev around : ℕ → List Entry → ℕ → FrameRun ℕ ℕ → FrameRun ℕ ℕ
    around job journal place run = FrameRun' (the job) journal [] one (more_of-InnerRow (InnerRow' place run) end_of-InnerRow)

    -- a start of task 7 whose run has faulted, or was cut short
    abbrev faulted_within : List Entry
    faulted_within = Start 7 Source [] ∷ FaultEntry 0 Inner ∷ []

    -- the reason of the run around such a run, by the one equation of the fold for each of them
    reason_around : (job place : ℕ) (run : FrameRun ℕ ℕ) (reason : Reason) → run_reason m run ≡ reason
        → run_reason m (around job faulted_within place run) ≡ faulted 7 Inner (reason_at ((place, reason) ∷ []) 1)
    unfolding out-FrameRun out shown-the_row-InnerRow-0 shown out-InnerRow
    reason_around job place run reason is =
        fold_out-FrameRun ℕ ℕ Reason (ℕ × Reason) (reason_step m) row_step (around job faulted_within place run)
        ∙ (ap (λ (row : ℕ × Reason). faulted 7 Inner (reason_at (row ∷ []) 1)) (fold_out-InnerRow ℕ ℕ Reason (ℕ × Reason) (reason_step m) row_step (InnerRow' place run))
        ∙ ap (λ r. faulted 7 Inner (reason_at ((place, r) ∷ []) 1)) is)

    fault_alone : run_reason m (alone 3 two_faults) ≡ Fault (7 ∷ []) (Long 9)
    unfolding out-FrameRun out shown-the_row-InnerRow-0 shown out-InnerRow
    fault_alone = fold_out-FrameRun ℕ ℕ Reason (ℕ × Reason) (reason_step m) row_step (alone 3 two_faults)

    fault_two_runs_below : run_reason m (around 1 faulted_within 1 (around 2 faulted_within 1 (alone 3 two_faults))) ≡ Fault (7 ∷ 7 ∷ 7 ∷ []) (Long 9)
    fault_two_runs_below = reason_around 1 1 (around 2 faulted_within 1 (alone 3 two_faults)) (Fault (7 ∷ 7 ∷ []) (Long 9)) (reason_around 2 1 (alone 3 two_faults) (Fault (7 ∷ []) (Long 9)) fault_alone)

    limit_of_the_run_inside : run_reason m (around 1 faulted_within 1 (alone 3 (Drop 3 Strong AtLimit ∷ []))) ≡ Limit (7 ∷ []) (m.limit 3)
    unfolding out-FrameRun out shown-the_row-InnerRow-0 shown out-InnerRow
    limit_of_the_run_inside =
        reason_around 1 1 (alone 3 (Drop 3 Strong AtLimit ∷ [])) (Limit [] (m.limit 3)) (fold_out-FrameRun ℕ ℕ Reason (ℕ × Reason) (reason_step m) row_step (alone 3 (Drop 3 Strong AtLimit ∷ [])))

    run_at_another_place : run_reason m (around 1 faulted_within 0 (alone 3 two_faults)) ≡ Fault (7 ∷ []) Inner
    run_at_another_place = reason_around 1 0 (alone 3 two_faults) (Fault (7 ∷ []) (Long 9)) fault_alone

    -- The starts and the spans of the runs inside, at each depth: those of each journal, with those of the rows beside
    -- it.
    starts_of_a_row_alone : (place : ℕ) → starts_of_row (InnerRow' place (alone 3 two_faults)) ≡ 2
    unfolding out-FrameRun out shown-the_row-InnerRow-0 shown out-InnerRow
    starts_of_a_row_alone place = fold_out-InnerRow ℕ ℕ ℕ ℕ starts_step row_number (InnerRow' place (alone 3 two_faults)) ∙ fold_out-FrameRun ℕ ℕ ℕ ℕ starts_step row_number (alone 3 two_faults)

    starts_of_a_row_around : (place : ℕ) (run : FrameRun ℕ ℕ) (n : ℕ) → starts_of_row (InnerRow' 1 run) ≡ n → starts_of_row (InnerRow' place (around 2 faulted_within 1 run)) ≡ 1 + sum (n ∷ [])
    unfolding out-FrameRun out shown-the_row-InnerRow-0 shown out-InnerRow
    starts_of_a_row_around place run n is =
        fold_out-InnerRow ℕ ℕ ℕ ℕ starts_step row_number (InnerRow' place (around 2 faulted_within 1 run))
        ∙ (fold_out-FrameRun ℕ ℕ ℕ ℕ starts_step row_number (around 2 faulted_within 1 run) ∙ ap (λ k. 1 + sum (k ∷ [])) is)

    starts_two_runs_below : starts_inside (around 1 faulted_within 1 (around 2 faulted_within 1 (alone 3 two_faults))) ≡ 3
    unfolding out-FrameRun out shown-the_row-InnerRow-0 shown out-InnerRow
    starts_two_runs_below = ap (λ k. sum (k ∷ [])) (starts_of_a_row_around 1 (alone 3 two_faults) 2 (starts_of_a_row_alone 1))

    no_starts_inside : starts_inside (alone 3 two_faults) ≡ 0
    unfolding out-FrameRun out shown-the_row-InnerRow-0 shown out-InnerRow
    no_starts_inside = refl

    spans_of_a_row_alone : (place : ℕ) → spans_of_row (InnerRow' place (alone 3 two_faults)) ≡ 2
    unfolding out-FrameRun out shown-the_row-InnerRow-0 shown out-InnerRow
    spans_of_a_row_alone place = fold_out-InnerRow ℕ ℕ ℕ ℕ spans_step row_number (InnerRow' place (alone 3 two_faults)) ∙ fold_out-FrameRun ℕ ℕ ℕ ℕ spans_step row_number (alone 3 two_faults)

    spans_with_those_below : all_spans (around 1 faulted_within 1 (alone 3 two_faults)) ≡ 3
    unfolding out-FrameRun out shown-the_row-InnerRow-0 shown out-InnerRow
    spans_with_those_below = ap (λ k. 1 + sum (k ∷ [])) (spans_of_a_row_alone 1)

-- An End or a Fault ends a span.
ends_of_spans : (is_span (Start 4 Source []) ≡ false) × (is_span (End 0 [] false) ≡ true) × (is_span (FaultEntry 0 Inner) ≡ true) × (is_span (Drop 3 Strong AtLimit) ≡ false)
ends_of_spans = (refl, refl, refl, refl)

-- Each step counts the journal's own, beside those of the rows.
module _ {J V : Type 0} (run : FrameRun-F J V ℕ ℕ) (row : InnerRow-F J V ℕ ℕ) where
  own_starts : starts_step (record run { journal = two_faults }) ≡ 2 + sum run.inner.items
  own_starts = refl

  own_spans : spans_step (record run { journal = two_faults }) ≡ 2 + sum run.inner.items
  own_spans = refl

  number_of_a_row : row_number (record row { run = 5 }) ≡ 5
  number_of_a_row = refl

-- Two parts side by side; no more than 65,536.
abbrev part : TaskRow
part = record { shape = Plain; takes = []; puts = [] }

abbrev two_parts : NetRows
two_parts = record { tasks = part ∷ part ∷ []; edges = []; sems = [] }

net_of_two_parts : IsSpreadNet 2 two_parts
net_of_two_parts = record { few = omega arith; rows = refl }

net_of_another_number : ¬ IsSpreadNet 3 two_parts
net_of_another_number is = absurd (omega (arith, ap (λ (n : NetRows). length n.tasks) is.rows))

net_with_an_edge : ¬ IsSpreadNet 2 (record two_parts { edges = record { from = 0; to = 1; start = false } ∷ [] })
net_with_an_edge is = absurd (omega (arith, ap (λ (n : NetRows). length n.edges) is.rows))

net_with_a_nested_part : ¬ IsSpreadNet 1 (record two_parts { tasks = record part { shape = Nested } ∷ [] })
net_with_a_nested_part is = let same : Nested ≡ Plain = ap (λ (n : NetRows). first_shape n.tasks) is.rows in absurd (cc)
  where
    first_shape : List TaskRow → Shape
    first_shape [] = Nested
    first_shape (row ∷ rows) = row.shape

net_past_the_limit : (net : NetRows) → ¬ IsSpreadNet 65537 net
net_past_the_limit net is = absurd (omega (arith, is.few))

refused_past_the_limit : RefusesSpread 65537 (TooWide 65537) × ¬ RefusesSpread 65536 (TooWide 65536) × ¬ RefusesSpread 65537 (TooWide 3)
refused_past_the_limit = ((refl, omega arith), (λ is. absurd (omega (arith, is.1))), λ is. absurd (omega (arith, is.0)))

no_memory_within_the_limit : RefusesSpread 65536 NoMemory × ¬ RefusesSpread 65537 NoMemory
no_memory_within_the_limit = (omega arith, λ is. absurd (omega (arith, is)))

-- The spans that ended in a run, and in the runs that were made inside it.
use Rattle.std.specs.Prelude.{ℕ, ◌+◌, Bool, true, false, List, count_by, map, sum, Option, Some, None}
use Rattle.join_tables.specs.declared.fates.Fate.{Fate}
use Rattle.join_tables.specs.declared.fates.Fate.TheVariants.{Ended, Faulted, Dropped, AllDropped}
use Rattle.journal_rules.specs.declared.span.Span.{Span}
use Rattle.nested_runs.specs.Totals.{all_spans, spans_of_row}
use Rattle.run_frame.specs.declared.run.FrameRun.{FrameRun}
use Rattle.table_runs.specs.RunKeys.{RunKeeperView}
use Rattle.table_runs.specs.declared.done_turns.DoneTurns.{DoneTurns}

-- whether a start ended or faulted
abbrev pub ends_span : {V : Type 0} → Fate V → Bool
ends_span (Ended e) = true
ends_span (Faulted f) = true
ends_span (Dropped d) = false
ends_span (AllDropped drops) = false

-- how many of these fates end a span
abbrev pub spans_in : {V : Type 0} → List (Fate V) → ℕ
spans_in fates = count_by ends_span fates

-- the span that a fate ends, in a run that is inside so many
abbrev pub span_of : {V : Type 0} → ℕ → Fate V → Option Span
span_of depth (Ended e) = Some (record { depth = depth; task = e.task; start = e.start; end = e.place })
span_of depth (Faulted f) = Some (record { depth = depth; task = f.task; start = f.start; end = f.place })
span_of depth (Dropped d) = None
span_of depth (AllDropped drops) = None

-- the spans of the run that was made in place of the work of a start, if one was
abbrev pub spans_made : {J V : Type 0} → Option (FrameRun J V) → ℕ
spans_made None = 0
spans_made (Some run) = all_spans run

-- those of the runs that were made in place of the work of some turns that are done
abbrev pub spans_inside : {J V : Type 0} → DoneTurns J V → ℕ
spans_inside done = sum (map spans_of_row done.inner.items)

-- those of the turns and of these runs
abbrev pub spans_done : {J V : Type 0} → DoneTurns J V → ℕ
spans_done done = spans_in done.batch.fates + spans_inside done

-- those that a keeper has
abbrev pub spans_kept : {J V : Type 0} → RunKeeperView J V → ℕ
spans_kept kept = spans_in kept.keeper.fates + kept.inside

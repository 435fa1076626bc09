-- How many starts and spans a run has, with the runs inside it.
use Rattle.std.specs.Prelude.{ℕ, ◌+◌, Bool, true, false, count_by, map, sum}
use Rattle.journal_rules.specs.Counts.{starts}
use Rattle.journal_rules.specs.declared.entry.Entry.{Entry}
use Rattle.journal_rules.specs.declared.entry.Entry.TheVariants.{Start, End, Fault, Drop}
use Rattle.run_frame.specs.declared.run.FrameRun.{FrameRun, out-FrameRun}
use Rattle.run_frame.specs.declared.run.FrameRun.TheOpen.{FrameRun-F, InnerRow-F}
use Rattle.run_frame.specs.declared.run.FrameRun.TheFolds.{fold-InnerRow}
use Rattle.run_frame.specs.declared.run.InnerRow.{InnerRow}
use Rattle.run_frame.specs.NestedRule.{journal_of}

-- whether an entry ends a span
abbrev pub is_span : Entry → Bool
is_span (Start task cause ins) = false
is_span (End start gives inner) = true
is_span (Fault start why) = true
is_span (Drop task cause why) = false

-- a number of an inner run is that of its row
abbrev pub row_number : {J V : Type 0} → InnerRow-F J V ℕ ℕ → ℕ
row_number row = row.run

-- the starts of the run in a row, with those of the runs inside it
abbrev pub starts_step : {J V : Type 0} → FrameRun-F J V ℕ ℕ → ℕ
starts_step run = starts run.journal + sum run.inner.items

abbrev pub starts_of_row : {J V : Type 0} → InnerRow J V → ℕ
starts_of_row {J} {V} = fold-InnerRow J V ℕ ℕ starts_step row_number

-- those of the runs inside a run
abbrev pub starts_inside : {J V : Type 0} → FrameRun J V → ℕ
starts_inside {J} {V} run = sum (map starts_of_row (out-FrameRun J V run).inner.items)

-- the spans of the run in a row, with those of the runs inside it
abbrev pub spans_step : {J V : Type 0} → FrameRun-F J V ℕ ℕ → ℕ
spans_step run = count_by is_span run.journal + sum run.inner.items

abbrev pub spans_of_row : {J V : Type 0} → InnerRow J V → ℕ
spans_of_row {J} {V} = fold-InnerRow J V ℕ ℕ spans_step row_number

-- those of a run
abbrev pub all_spans : {J V : Type 0} → FrameRun J V → ℕ
all_spans {J} {V} run = count_by is_span (journal_of run) + sum (map spans_of_row (out-FrameRun J V run).inner.items)

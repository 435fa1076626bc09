-- The reasons of the runs inside a run, one by one.
use Rattle.std.specs.Prelude.{ℕ, map, Option}
use Rattle.run_frame.specs.Meaning.{Meaning}
use Rattle.run_frame.specs.declared.run.FrameRun.{FrameRun, out-FrameRun}
use Rattle.run_frame.specs.declared.run.InnerRow.{InnerRow}
use Rattle.run_frame.specs.declared.run.FrameRun.TheFolds.{fold-InnerRow}
use Rattle.nested_runs.specs.Reasons.{reason_at, reason_step, row_step}
use Rattle.nested_runs.specs.declared.reasons.Reason.{Reason}

-- the reason of the run in a row, beside its index
abbrev pub row_reason : {J V : Type 0} → Meaning J V → InnerRow J V → ℕ × Reason
row_reason {J} {V} meaning = fold-InnerRow J V Reason (ℕ × Reason) (reason_step meaning) row_step

-- the reason of the inner run with this index
abbrev pub inner_reason_at : {J V : Type 0} → Meaning J V → FrameRun J V → ℕ → Option Reason
inner_reason_at {J} {V} meaning run n = reason_at (map (row_reason meaning) (out-FrameRun J V run).inner.items) n

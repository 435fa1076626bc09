-- Why a run came to its end.
use Rattle.std.specs.Prelude.{ℕ, suc, ◌==◌, List, [], ◌∷◌, count_by, unwrap_or, Option, Some, None, if◌then◌else◌}
use Rattle.std.specs.Arc.{arc_value}
use Rattle.journal_rules.specs.declared.entry.Entry.{Entry}
use Rattle.journal_rules.specs.declared.entry.Entry.TheVariants.{Start, End, Fault as FaultEntry, Drop}
use Rattle.journal_rules.specs.declared.entry.DropWhy.TheVariants.{Stuck as WantsUnit}
use Rattle.journal_rules.specs.declared.entry.Why.{Why}
use Rattle.journal_rules.specs.declared.entry.Why.TheVariants.{Inner}
use Rattle.journal_rules.specs.Counts.{start_at}
use Rattle.journal_rules.specs.Complete.{is_limited}
use Rattle.run_frame.specs.Meaning.{Meaning}
use Rattle.run_frame.specs.declared.run.FrameRun.{FrameRun}
use Rattle.run_frame.specs.declared.run.FrameRun.TheOpen.{FrameRun-F, InnerRow-F}
use Rattle.run_frame.specs.declared.run.FrameRun.TheFolds.{fold-FrameRun}
use Rattle.nested_runs.specs.declared.faults.Faulted.{Faulted}
use Rattle.nested_runs.specs.declared.reasons.Reason.{Reason}
use Rattle.nested_runs.specs.declared.reasons.Reason.TheVariants.{Fine, Fault, Limit, Stuck}

-- the first Fault among entries of which the first has this index: its index, that of the start which it closes, and
-- why
abbrev pub first_fault_from : ℕ → List Entry → Option Faulted
first_fault_from n [] = None
first_fault_from n (Start task cause ins ∷ rest) = first_fault_from (suc n) rest
first_fault_from n (End start gives inner ∷ rest) = first_fault_from (suc n) rest
first_fault_from n (FaultEntry start why ∷ rest) = Some (record { place = n; start = start; why = why })
first_fault_from n (Drop task cause why ∷ rest) = first_fault_from (suc n) rest

abbrev pub first_fault : List Entry → Option Faulted
first_fault journal = first_fault_from 0 journal

-- the task of the first Drop for want of a unit
abbrev pub first_stuck : List Entry → Option ℕ
first_stuck [] = None
first_stuck (Drop task cause (WantsUnit s) ∷ rest) = Some task
first_stuck (entry ∷ rest) = first_stuck rest

-- without a Fault a run was limited, or else a task stuck in it, or else it is fine
abbrev pub stuck_reason : Option ℕ → Reason
stuck_reason None = Fine
stuck_reason (Some task) = Stuck (task ∷ [])

abbrev pub unfaulted : ℕ → List Entry → Reason
unfaulted limit journal = if count_by is_limited journal == 0 then stuck_reason (first_stuck journal) else Limit [] limit

-- the reason of a run that a task made, from that task on
abbrev pub below : ℕ → Reason → Reason
below task Fine = Fine
below task (Fault path why) = Fault (task ∷ path) why
below task (Limit path limit) = Limit (task ∷ path) limit
below task (Stuck path) = Stuck (task ∷ path)

-- A Fault is the reason by itself, unless it is that of the run which its task made: then that run's reason is.
abbrev pub faulted : ℕ → Why → Option Reason → Reason
faulted task Inner (Some reason) = below task reason
faulted task why inner = Fault (task ∷ []) why

-- the first of these reasons with this index
abbrev pub reason_at : List (ℕ × Reason) → ℕ → Option Reason
reason_at [] n = None
reason_at (row ∷ rows) n = if row.0 == n then Some row.1 else reason_at rows n

-- One run, with the reason of each run inside it beside that run's index: the first Fault counts.
abbrev pub reason_step : {J V : Type 0} → Meaning J V → FrameRun-F J V Reason (ℕ × Reason) → Reason
reason_step meaning run = elim (first_fault run.journal) [
  | None ↦ unfaulted (meaning.limit (arc_value run.job)) run.journal
  | Some fault ↦ faulted (unwrap_or (start_at run.journal fault.start) 0) fault.why (reason_at run.inner.items fault.place)
]

-- the reason of an inner run, beside its index
abbrev pub row_step : {J V : Type 0} → InnerRow-F J V Reason (ℕ × Reason) → ℕ × Reason
row_step row = (row.place, row.run)

-- why a run came to its end
abbrev pub run_reason : {J V : Type 0} → Meaning J V → FrameRun J V → Reason
run_reason {J} {V} meaning = fold-FrameRun J V Reason (ℕ × Reason) (reason_step meaning) row_step

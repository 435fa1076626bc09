-- Which runs are legal.
use Rattle.std.specs.Prelude.{ℕ, Option}
use Rattle.journal_rules.specs.Entries.{EachAfter}
use Rattle.journal_rules.specs.ShapeLegal.{ShapeLegal, MeetsDataRule}
use Rattle.journal_rules.specs.Complete.{Complete}
use Rattle.run_frame.specs.declared.run.FrameRun.{FrameRun, FrameRun', out-FrameRun, Row_of-InnerRow, end_of-InnerRow, more_of-InnerRow}
use Rattle.run_frame.specs.declared.run.InnerRow.{InnerRow, InnerRow'}
use Rattle.run_frame.specs.Meaning.{Meaning}
use Rattle.run_frame.specs.Runs.{inner_in}
use Rattle.run_frame.specs.WorkRule.{WorkRule}
use Rattle.run_frame.specs.NestedRule.{NestedRule, job_of, journal_of}
use Rattle.run_frame.specs.Rows.{RowsFit}

-- the inner run at a place
abbrev pub inner_at : {J V : Type 0} → FrameRun J V → ℕ → Option (FrameRun J V)
inner_at {J} {V} run n = inner_in (out-FrameRun J V run).inner.items n

-- A run's journal is legal: by its net and limit, by what its starts find, by the work that its job may do, and
-- by the runs that its starts made, taken as they are.
pub record LegalJournal {J V : Type 0} (meaning : Meaning J V) (run : FrameRun J V) : Type 0 where
  pub shape : ShapeLegal (meaning.net (job_of run)) (meaning.limit (job_of run)) (journal_of run)
  pub found : MeetsDataRule (meaning.net (job_of run)) (journal_of run)
  pub work : EachAfter (WorkRule meaning (job_of run) (out-FrameRun J V run).values (inner_at run)) (journal_of run)
  pub nested : EachAfter (NestedRule meaning (job_of run) (out-FrameRun J V run).values (inner_at run)) (journal_of run)

-- nothing runs in it and no release is left
abbrev pub CompleteRun : {J V : Type 0} → Meaning J V → FrameRun J V → Type 0
CompleteRun meaning run = Complete (meaning.net (job_of run)) (meaning.limit (job_of run)) (journal_of run)

-- A run is legal where its journal is, its rows fit the journal, and each run inside it is legal and complete.
abbrev mutual
  pub Legal : {J V : Type 0} → Meaning J V → FrameRun J V → Type 0
  Legal meaning (FrameRun' job journal values shape rows) =
      LegalJournal meaning (FrameRun' job journal values shape rows) × RowsFit (FrameRun' job journal values shape rows) × LegalRows meaning rows

  pub LegalRows : {J V : Type 0} → Meaning J V → {m : _} → Row_of-InnerRow J V m → Type 0
  LegalRows meaning end_of-InnerRow = Unit {0}
  LegalRows meaning (more_of-InnerRow row rest) = LegalRow meaning row × LegalRows meaning rest

  pub LegalRow : {J V : Type 0} → Meaning J V → InnerRow J V → Type 0
  LegalRow meaning (InnerRow' place run) = Legal meaning run × CompleteRun meaning run

-- a run that may be kept and handed out: it is legal and it is finished, and so is each run inside it
pub record IsKept {J V : Type 0} (meaning : Meaning J V) (run : FrameRun J V) : Type 0 where
  pub legal : Legal meaning run
  pub complete : CompleteRun meaning run

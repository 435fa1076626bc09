-- The laws of runs of plain jobs.
use Rattle.std.specs.Prelude.{◌≡◌, ◌↔◌, ℕ, ◌<◌, true, length}
use Rattle.run_frame.specs.declared.run.FrameRun.{FrameRun}
use Rattle.run_frame.specs.LastEnds.{last_value}
use Rattle.run_frame.specs.Legal.{IsKept}
use Rattle.run_frame.specs.Meaning.{Meaning}
use Rattle.run_frame.specs.NestedRule.{job_of, journal_of}
use Rattle.run_frame.specs.Runs.{values_of}
use Rattle.nested_runs.specs.Reasons.{run_reason}
use Rattle.nested_runs.specs.declared.reasons.Reason.TheVariants.{Fine}
use Rattle.run_laws.specs.OneThreadValue.{OneAnswer}
use Rattle.run_laws.specs.PlainJobs.{IsGraphJob, PlainJobs, plain_answer, plain_value, runs_through}

-- A run comes to its end fine exactly where the values by one thread run through, and then its tasks have ended with
-- these values.
pub record IsPlainRun {J V : Type 0} (meaning : Meaning J V) (run : FrameRun J V) (one : OneAnswer V) : Type 0 where
  pub fine : (run_reason meaning run ≡ Fine) ↔ (runs_through (meaning.net (job_of run)) (meaning.limit (job_of run)) one ≡ true)
  pub values : run_reason meaning run ≡ Fine → (t : ℕ) → t < length (meaning.net (job_of run)).tasks → last_value (journal_of run) (values_of run) t ≡ plain_value (meaning.net (job_of run)) one t

-- So it is with each run that is kept of a plain job, whatever the order in which its tasks, and those of the runs
-- inside it, started and ended.
abbrev pub RunsPlainly : {J V : Type 0} → Meaning J V → PlainJobs J V → FrameRun J V → Type 0
RunsPlainly meaning plain run = (d : ℕ) → IsGraphJob plain d (job_of run) → IsKept meaning run → IsPlainRun meaning run (plain_answer meaning plain d (job_of run))

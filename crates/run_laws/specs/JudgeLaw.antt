-- What the judge says of the journal of a kept run.
use Rattle.std.specs.Prelude.{◌≡◌}
use Rattle.task_graph.specs.Net.{IsNet}
use Rattle.legal_run.specs.declared.verdict.Verdict.{Verdict}
use Rattle.legal_run.specs.declared.verdict.Verdict.TheVariants.{Complete}
use Rattle.legal_run.specs.Verdict.{IsVerdict}
use Rattle.run_frame.specs.declared.run.FrameRun.{FrameRun}
use Rattle.run_frame.specs.Legal.{IsKept}
use Rattle.run_frame.specs.Meaning.{Meaning}
use Rattle.run_frame.specs.NestedRule.{job_of, journal_of}

-- By the net and the limit of the run's job, `Complete` is a verdict on its journal, and there is no other.
pub record IsJudgedComplete {J V : Type 0} (meaning : Meaning J V) (run : FrameRun J V) : Type 0 where
  pub complete : IsVerdict (meaning.net (job_of run)) (meaning.limit (job_of run)) (journal_of run) Complete
  pub only : (verdict : Verdict) → IsVerdict (meaning.net (job_of run)) (meaning.limit (job_of run)) (journal_of run) verdict → verdict ≡ Complete

abbrev pub JudgesKept : {J V : Type 0} → Meaning J V → FrameRun J V → Type 0
JudgesKept meaning run = IsNet (meaning.net (job_of run)) → IsKept meaning run → IsJudgedComplete meaning run

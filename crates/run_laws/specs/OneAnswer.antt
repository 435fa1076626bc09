-- Jobs whose meaning allows one answer.
use Rattle.std.specs.Prelude.{◌≡◌, ℕ, List, Some, None}
use Rattle.task_graph.specs.Net.{out_edges}
use Rattle.journal_rules.specs.declared.entry.Why.{Why}
use Rattle.join_words.specs.Ins.{InputValue}
use Rattle.run_frame.specs.declared.job.Answer.{Answer}
use Rattle.run_frame.specs.declared.job.Done.TheVariants.{Value, Inner as InnerJob}
use Rattle.run_frame.specs.declared.run.FrameRun.{FrameRun}
use Rattle.run_frame.specs.Meaning.{Meaning}
use Rattle.run_frame.specs.Runs.{IsFine}
use Rattle.run_frame.specs.WorkRule.{gives_of}
use Rattle.run_frame.specs.NestedRule.{job_of, journal_of}
use Rattle.run_frame.specs.Legal.{Legal, CompleteRun}
use Rattle.run_laws.specs.OneThreadValue.{OneAnswer}

-- a run that a task may have made, legal and complete
pub record InnerRunOf {J V : Type 0} (meaning : Meaning J V) (job : J) (t : ℕ) (found : List (InputValue V)) (run : FrameRun J V) : Type 0 where
  pub answered : meaning.answers job t found (InnerJob (job_of run))
  pub legal : Legal meaning run
  pub complete : CompleteRun meaning run

-- The meaning of a job allows one answer of each task on what it finds: whatever value or fault it allows is that
-- one, and so is what any legal and complete run of an inner job leads to.
pub record AllowsOne {J V : Type 0} (meaning : Meaning J V) (job : J) (one : OneAnswer V) : Type 0 where
  pub value : (t : ℕ) (found : List (InputValue V)) (v : V) (answer : Answer) → meaning.answers job t found (Value v answer)
      → one t found ≡ Some (record { value = v; gives = gives_of (out_edges (meaning.net job) t) answer })
  pub fault : (t : ℕ) (found : List (InputValue V)) (why : Why) → meaning.faults job t found why → one t found ≡ None
  pub inner_value : (t : ℕ) (found : List (InputValue V)) (run : FrameRun J V) (v : V) → InnerRunOf meaning job t found run → IsFine (journal_of run)
      → meaning.gathers (job_of run) run v → one t found ≡ Some (record { value = v; gives = out_edges (meaning.net job) t })
  pub inner_fault : (t : ℕ) (found : List (InputValue V)) (run : FrameRun J V) → InnerRunOf meaning job t found run → ¬ IsFine (journal_of run) → one t found ≡ None
  pub gather_fault : (t : ℕ) (found : List (InputValue V)) (run : FrameRun J V) (why : Why) → InnerRunOf meaning job t found run → IsFine (journal_of run)
      → meaning.gather_faults (job_of run) run why → one t found ≡ None

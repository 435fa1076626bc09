-- What a call does that is asked for the rounds of a plan without conditions, whatever the number of workers.
use Rattle.std.specs.Prelude.{◌≡◌, ◌⊎◌, ℕ, false, List, Option, Some}
use Rattle.outside_io.specs.Sink.{Took}
use Rattle.run_frame.specs.NestedRule.{job_of}
use Rattle.text_tasks.specs.JobMeaning.{names_of}
use Rattle.text_tasks.specs.declared.job.TextJob.{TextJob}
use Rattle.call_status.specs.declared.status.Status.{Status}
use Rattle.call_status.specs.declared.status.Status.TheVariants.{Done, NoMemory}
use Rattle.command_line.specs.Requests.{Asked, AskedRounds, profile, run}
use Rattle.report_laws.specs.PlainReport.{HasSameReport, IsPlainJob}
use Rattle.flow_run.specs.Requests.{SourceTexts, IsRequestedJob}
use Rattle.profile_table.specs.ProfileText.{profile_text}
use Rattle.flow_run.specs.PlainProfiles.{plain_rows}
use Rattle.flow_run.specs.PlainRounds.{RoundsRunWell, plain_rounds}
use Rattle.flow_run.specs.RoundTexts.{TextRun}

-- A run of a plan without conditions is fine exactly where its values by one thread run through, and reports these.
abbrev pub IsReportedPlainly : TextRun → Type 0
IsReportedPlainly kept = IsPlainJob (job_of kept) → HasSameReport kept

-- Rounds of a file are asked for, and their reports or their profile, but not their journals.
abbrev pub AsksRounds : Option Asked → List ℕ → ℕ → ℕ → AskedRounds → Type 0
AsksRounds asked file limit workers rounds = (asked ≡ Some (run file limit workers rounds false)) ⊎ (asked ≡ Some (profile file limit workers rounds))

-- Such rounds are asked for; the source specifies its texts, and holds, within their limits, the file and the texts of
-- this job, whose plan can begin or has no tasks, and has no conditions.
pub record AsksPlainly (held : SourceTexts) (asked : Option Asked) (rounds : AskedRounds) (job : TextJob) : Type 0 where
  pub file : List ℕ
  pub limit : ℕ
  pub workers : ℕ
  pub text : List ℕ → Option (List ℕ)
  pub asks : AsksRounds asked file limit workers rounds
  pub specified : held ≡ Some text
  pub requested : IsRequestedJob held file limit job
  pub plain : IsPlainJob job

-- What the output takes that is worked out by one thread: the reports of the rounds, or the table of their profile,
-- which has some number of spans.
abbrev pub TookPlainly : Option Asked → TextJob → Option (List ℕ) → Option (List ℕ) → Type 0
TookPlainly (Some (run file limit workers rounds false)) job before after = Took before after (plain_rounds rounds job)
TookPlainly (Some (profile file limit workers rounds)) job before after = (spans : ℕ) × Took before after (profile_text (plain_rows rounds job) (names_of job) spans)
TookPlainly asked job before after = Unit {0}

-- The call is done exactly where the values of each round by one thread run through, unless a read, a write or an
-- allocation fails; and when it is done the output has taken what one thread works out, and nothing else.
pub record EndsPlainly (asked : Option Asked) (rounds : AskedRounds) (job : TextJob) (before after : Option (List ℕ)) (NothingFailed : Type 0) (status : Status) : Type 0 where
  pub well : status ≡ Done → RoundsRunWell rounds job
  pub output : status ≡ Done → TookPlainly asked job before after
  pub done : RoundsRunWell rounds job → NothingFailed → (status ≡ Done) ⊎ (status ≡ NoMemory)

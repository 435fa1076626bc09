-- How a call of the program ends: the status, what ran, and what was written.
use Rattle.std.specs.Prelude.{◌≡◌, ◌≢◌, ◌⊎◌, ℕ, ◌<◌, ◌≤◌, Bool, true, false, List, [], ◌++◌, Option, Some, None}
use Rattle.outside_io.specs.Sink.{SinkState, Took, TookFront}
use Rattle.text_tasks.specs.declared.job.TextJob.{TextJob}
use Rattle.text_tasks.specs.JobMeaning.{names_of, text_job}
use Rattle.call_status.specs.declared.status.Status.{Status}
use Rattle.call_status.specs.declared.status.Status.TheVariants.{Done, BadWords, WriteFault, NoMemory}
use Rattle.call_status.specs.Statuses.{status_after}
use Rattle.call_status.specs.Stopping.{StoppedBefore}
use Rattle.command_line.specs.Requests.{Asked, AskedRounds, asked_by, once, run, profile, judge, check, upgrade, generate, count}
use Rattle.nested_runs.specs.Rounds.{AreAllRounds, AreFirstRounds}
use Rattle.nested_runs.specs.declared.reasons.Reason.{Reason}
use Rattle.nested_runs.specs.declared.reasons.Reason.TheVariants as reason
use Rattle.flow_run.specs.declared.conclusion.Conclusion.{Conclusion}
use Rattle.flow_run.specs.declared.conclusion.GraphProfile.{GraphProfile}
use Rattle.flow_run.specs.declared.conclusion.Conclusion.TheVariants.{Profile, Verdict, Findings, GraphFile, WordLines}
use Rattle.flow_run.specs.Requests.{SourceTexts, IsRequestedJob, StopsBefore}
use Rattle.flow_run.specs.RoundTexts.{last_reason, round_rule, rounds_text}
use Rattle.flow_run.specs.Generated.{IsGeneratedJob, summaries_text}
pub use Rattle.flow_run.specs.RoundTexts.{TextRun}
use Rattle.flow_run.specs.Profiles.{IsProfileOf, graph_profile_text}
use Rattle.flow_run.specs.Judgements.{JudgeEnds, verdict_line}
use Rattle.flow_run.specs.Checks.{CheckEnds, findings_text}
use Rattle.flow_run.specs.Upgrades.{UpgradeEnds}
use Rattle.flow_run.specs.Counted.{CountEnds, count_text}

-- The status is that of the run's reason; or that writing failed, where the run ended fine; or, after any run, that
-- memory ran out.
abbrev pub IsAfterRun : Reason → Status → Type 0
IsAfterRun why status = (status ≡ status_after why) ⊎ ((why ≡ reason.Fine) × (status ≡ WriteFault)) ⊎ (status ≡ NoMemory)

-- Rounds were run that are asked for, of which the first is of such a job: all of them, unless memory ran out. The
-- status is that of the last.
pub record RanRounds (IsJob : TextJob → Type 0) (rounds : AskedRounds) (status : Status) (runs : List TextRun) : Type 0 where
  pub job : TextJob
  pub is : IsJob job
  pub first : AreFirstRounds text_job job (round_rule rounds) runs
  pub all : status ≢ NoMemory → AreAllRounds text_job job (round_rule rounds) runs
  pub after : IsAfterRun (last_reason runs) status

-- How a call ends that is to run a file: before a run, for a reason that the status has, or after the rounds that the
-- file is asked for.
abbrev pub RunEnds : SourceTexts → List ℕ → ℕ → AskedRounds → Status → List TextRun → Type 0
RunEnds held file limit rounds status runs = StoppedBefore (StopsBefore held file) status (runs ≡ []) ⊎ RanRounds (IsRequestedJob held file limit) rounds status runs

-- how the rounds of a job end
abbrev pub JobEnds : TextJob → AskedRounds → Status → List TextRun → Type 0
JobEnds job rounds status runs = RanRounds (λ of. of ≡ job) rounds status runs

-- Rounds of such a job were run, and counted unless memory ran out. No round is counted only where none was to be run.
pub record RanProfile (IsJob : TextJob → Type 0) (rounds : AskedRounds) (status : Status) (runs : List TextRun) (concluded : Option Conclusion) : Type 0 where
  pub ran : RanRounds IsJob rounds status runs
  pub counted : ((status ≡ NoMemory) × (concluded ≡ None)) ⊎ ((counts : GraphProfile) × (concluded ≡ Some (Profile counts)) × IsProfileOf (names_of ran.job) runs counts)
  pub none_asked : concluded ≢ None → runs ≡ [] → AreAllRounds text_job ran.job (round_rule rounds) []

-- How a call ends that is to write the profile of a file: before a run, for a reason that the status has, or after the
-- rounds that the file is asked for.
abbrev pub ProfileEnds : SourceTexts → List ℕ → ℕ → AskedRounds → Status → List TextRun → Option Conclusion → Type 0
ProfileEnds held file limit rounds status runs concluded = StoppedBefore (StopsBefore held file) status ((runs ≡ []) × (concluded ≡ None)) ⊎ RanProfile (IsRequestedJob held file limit) rounds status runs concluded

-- How a call ends that is to run a generated graph: without memory before a run, or after the run.
abbrev pub GenerateEnds : ℕ → Status → List TextRun → Type 0
GenerateEnds layers status runs = ((status ≡ NoMemory) × (runs ≡ [])) ⊎ RanRounds (IsGeneratedJob layers) once status runs

-- How a call ends whose command line asks for this: for a run of a file, for its profile, for a judgement of a journal,
-- for a check of a graph, for an upgrade of its file, for a run of a generated graph, for a count of lines, or for
-- nothing.
abbrev pub AskedEnds : SourceTexts → Option Asked → Status → List TextRun → Option Conclusion → Type 0
AskedEnds held (Some (run file limit workers rounds journal)) status runs concluded = RunEnds held file limit rounds status runs × (concluded ≡ None)
AskedEnds held (Some (profile file limit workers rounds)) status runs concluded = ProfileEnds held file limit rounds status runs concluded
AskedEnds held (Some (judge file name limit)) status runs concluded = JudgeEnds held file name limit status concluded × (runs ≡ [])
AskedEnds held (Some (check file)) status runs concluded = CheckEnds held file status concluded × (runs ≡ [])
AskedEnds held (Some (upgrade file)) status runs concluded = UpgradeEnds held file status concluded × (runs ≡ [])
AskedEnds held (Some (generate layers workers)) status runs concluded = GenerateEnds layers status runs × (concluded ≡ None)
AskedEnds held (Some (count word file grain workers)) status runs concluded = CountEnds held word file status concluded × (runs ≡ [])
AskedEnds held None status runs concluded = (status ≡ BadWords) × (runs ≡ []) × (concluded ≡ None)

-- How a call ends: as what its command line asks for does; or there is no memory to read it.
abbrev pub CallEnds : SourceTexts → List (List ℕ) → Status → List TextRun → Option Conclusion → Type 0
CallEnds held arguments status runs concluded =
    AskedEnds held (asked_by arguments) status runs concluded ⊎ ((status ≡ NoMemory) × (runs ≡ []) × (concluded ≡ None))

-- what is written of the runs that are kept: their reports or journals, where a run is asked for; of a generated
-- graph's run its summary
abbrev pub runs_text : Option Asked → List TextRun → List ℕ
runs_text (Some (run file limit workers rounds journal)) runs = rounds_text rounds journal runs
runs_text (Some (generate layers workers)) runs = summaries_text layers runs
runs_text asked runs = []

-- what is written of a conclusion, if there is one
abbrev pub conclusion_text : Option Conclusion → List ℕ
conclusion_text None = []
conclusion_text (Some (Profile counts)) = graph_profile_text counts
conclusion_text (Some (Verdict verdict)) = verdict_line verdict
conclusion_text (Some (Findings found)) = findings_text found
conclusion_text (Some (GraphFile text)) = text
conclusion_text (Some (WordLines lines)) = count_text lines

-- what is written to the output: of the runs that are kept, and of the conclusion
abbrev pub output_of : List (List ℕ) → List TextRun → Option Conclusion → List ℕ
output_of arguments runs conclusion = runs_text (asked_by arguments) runs ++ conclusion_text conclusion

-- What a command has done to the output when it ends, to which it was to write these bytes. Where it came to nothing
-- the output is as it was.
pub record HasWritten {S : Type 0} (state : S → SinkState) (old new : S) (status : Status) (Nothing : Type 0) (bytes : List ℕ) (written : Bool) : Type 0 where
  pub front : TookFront (state old).taken (state new).taken bytes
  pub whole : written ≡ true → Took (state old).taken (state new).taken bytes
  pub nothing_held : (state new).held_back ≡ []
  pub no_fault : written ≡ true → (state new).faults ≡ (state old).faults
  pub cause : written ≡ false → ((state old).faults < (state new).faults) ⊎ (status ≡ NoMemory)
  pub no_fewer : (state old).faults ≤ (state new).faults
  pub done : status ≡ Done → written ≡ true
  pub write_fault : status ≡ WriteFault → written ≡ false
  pub untouched : Nothing → new ≡ old
  pub nothing_to_write : Nothing → written ≡ true

-- what a command has done to the output that keeps these rounds
abbrev pub Reported : {S : Type 0} → (S → SinkState) → S → S → Status → AskedRounds → Bool → List TextRun → Bool → Type 0
Reported state old new status rounds journal runs written = HasWritten state old new status (runs ≡ []) (rounds_text rounds journal runs) written

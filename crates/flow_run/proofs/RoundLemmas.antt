-- The rounds of a plan's job, and the last of them.
use Rattle.std.proofs.Common.{◌≡◌, ◌≢◌, ◌<◌, ℕ, zero, suc, ◌-◌, List, [], ◌∷◌, length, map, get_or, Option, Some, None, All, inl, inr, refl, sym, ap, ◌∙◌, subst, arith}
use Rattle.std.specs.Prelude.{IfSome, slice_get}
use Rattle.std.specs.Option.{option_map_or}
use Rattle.std.proofs.lemmas.Bool.{false≢true}
use Rattle.std.proofs.lemmas.List.Elements.{All-nil}
use Rattle.std.proofs.lemmas.Option.{slice_get-get_or}
use Rattle.call_status.specs.declared.status.Status.{Status}
use Rattle.call_status.specs.declared.status.Status.TheVariants.{NoMemory}
use Rattle.command_line.specs.Requests.{Asked, AskedRounds, once, run as run_of, profile as profile_of, judge as judge_of, check as check_of, upgrade as upgrade_of, generate as generate_of, count as count_of}
use Rattle.nested_runs.specs.Reasons.{run_reason}
use Rattle.nested_runs.specs.Rounds.{AreAllRounds, AreFirstRounds, AreRounds, IsNextRound, RoundRule}
use Rattle.nested_runs.specs.declared.reasons.Reason.TheVariants.{Fine}
use Rattle.run_frame.specs.NestedRule.{job_of, journal_of}
use Rattle.text_tasks.specs.declared.item.Item.{Item}
use Rattle.text_tasks.specs.declared.job.TextJob.{TextJob}
use Rattle.text_tasks.specs.declared.job.TextJob.TheVariants.{Graph, Parts, Pipe}
use Rattle.text_tasks.specs.JobMeaning.{names_of, text_job}
use Rattle.profile_table.proofs.ProfileLemmas.{row_for_each_task}
use Rattle.run_laws.specs.TextAnswers.{IsPlanned}
use Rattle.flow_run.specs.Requests.{SourceTexts, IsRequestedJob}
use Rattle.flow_run.specs.declared.conclusion.Conclusion.{Conclusion}
use Rattle.flow_run.specs.declared.conclusion.Conclusion.TheVariants.{Profile}
use Rattle.flow_run.specs.declared.conclusion.GraphProfile.{GraphProfile}
use Rattle.flow_run.specs.Profiles.{IsProfileOf}
use Rattle.flow_run.specs.Answers.{GenerateEnds, IsAfterRun, JobEnds, ProfileEnds, RanProfile, RunEnds, runs_text}
use Rattle.flow_run.specs.Generated.{IsGeneratedJob}
use Rattle.flow_run.specs.RoundTexts.{TextRun, last_reason, round_rule}

-- what follows a run of a plan's top graph is of that graph
pub follows_planned : (job next : TextJob) (run : TextRun) → text_job.follows job run next → IsPlanned job → IsPlanned next
follows_planned (Graph work) next run follows planned = subst IsPlanned (sym follows) planned
follows_planned (Parts work) next run follows planned = absurd follows
follows_planned (Pipe work) next run follows planned = absurd follows

-- What holds of a job, and of each that follows a run of one of which it holds, holds of the job of each round.
pub rounds_keep : (Holds : TextJob → Type 0) → ((job next : TextJob) (run : TextRun) → text_job.follows job run next → Holds job → Holds next) → (job : TextJob) (runs : List TextRun) → AreRounds text_job job runs
    → Holds job → All (λ run. Holds (job_of run)) runs
rounds_keep Holds follows job runs are holds zero d below =
    let first : job_of (get_or runs 0 d) ≡ job = subst (λ (o : Option TextRun). IfSome o (λ run. job_of run ≡ job)) (slice_get-get_or runs 0 d below) are.first in
    subst Holds (sym first) holds
rounds_keep Holds follows job runs are holds (suc k) d below =
    let before : k < length runs = omega (arith, below) in
    let after : IsNextRound text_job (get_or runs k d) (get_or runs (suc k) d) =
    subst (λ (o : Option TextRun). IfSome o (IsNextRound text_job (get_or runs k d))) (slice_get-get_or runs (suc k) d below)
    (subst (λ (o : Option TextRun). IfSome o (λ last. IfSome (slice_get runs (suc k)) (IsNextRound text_job last))) (slice_get-get_or runs k d before) (are.next k)) in
    follows (job_of (get_or runs k d)) (job_of (get_or runs (suc k) d)) (get_or runs k d) after.follows (rounds_keep Holds follows job runs are holds k d before)

-- So each round of a plan's job is of its top graph.
pub rounds_planned : (job : TextJob) (runs : List TextRun) → AreRounds text_job job runs → IsPlanned job → All (λ run. IsPlanned (job_of run)) runs
rounds_planned = rounds_keep IsPlanned follows_planned

-- none are the first rounds of any job
pub no_round : (job : TextJob) (rule : RoundRule TextJob Item) → AreFirstRounds text_job job rule []
no_round job rule = record { rounds = record { kept = All-nil _; first = tt; next = λ n. tt }; few = omega arith; went_on = λ n below. absurd (omega (arith, below)) }

-- where each of some runs is fine, the last is
pub last_fine : (runs : List TextRun) → All (λ run. run_reason text_job run ≡ Fine) runs → last_reason runs ≡ Fine
last_fine [] fine = refl
last_fine (run ∷ rest) fine =
    ap (λ (o : Option TextRun). option_map_or (run_reason text_job) o Fine) (slice_get-get_or (run ∷ rest) (length (run ∷ rest) - 1) run (omega arith))
    ∙ fine (length (run ∷ rest) - 1) run (omega arith)

-- where no rounds are asked for there is one run
pub one_round : (job : TextJob) (runs : List TextRun) → AreAllRounds text_job job (round_rule once) runs → (run : TextRun) × (runs ≡ run ∷ [])
one_round job [] are = absurd (elim are.over [
  | inl same ↦ omega (arith, same)
  | inr (inl ends) ↦ false≢true ends
  | inr (inr cut) ↦ cut
])
one_round job (run ∷ []) are = (run, refl)
one_round job (run ∷ more ∷ rest) are = absurd (omega (arith, are.first.few))

-- ---- the job that a file asks for

-- how its rounds end
pub job_ends : (job : TextJob) (rounds : AskedRounds) (status : Status) (runs : List TextRun) → AreFirstRounds text_job job (round_rule rounds) runs
    → (status ≢ NoMemory → AreAllRounds text_job job (round_rule rounds) runs) → IsAfterRun (last_reason runs) status → JobEnds job rounds status runs
job_ends job rounds status runs first all after = record { job = job; is = refl; first = first; all = all; after = after }

-- and so does the run of the file
pub requested_rounds : (held : SourceTexts) (file : List ℕ) (limit : ℕ) (job : TextJob) (rounds : AskedRounds) (status : Status) (runs : List TextRun) → IsRequestedJob held file limit job
    → JobEnds job rounds status runs → RunEnds held file limit rounds status runs
requested_rounds held file limit job rounds status runs requested ends =
    inr (record { job = ends.job; is = subst (IsRequestedJob held file limit) (sym ends.is) requested; first = ends.first; all = ends.all; after = ends.after })

-- and that of a generated graph
pub generated_rounds : (layers : ℕ) (job : TextJob) (status : Status) (runs : List TextRun) → IsGeneratedJob layers job → JobEnds job once status runs → GenerateEnds layers status runs
generated_rounds layers job status runs generated ends =
    inr (record { job = ends.job; is = subst (IsGeneratedJob layers) (sym ends.is) generated; first = ends.first; all = ends.all; after = ends.after })

-- ---- profiles

-- how the rounds of a profile end
pub run_of_profile : (held : SourceTexts) (file : List ℕ) (limit : ℕ) (rounds : AskedRounds) (status : Status) (runs : List TextRun) (concluded : Option Conclusion) → ProfileEnds held file limit rounds status runs concluded
    → RunEnds held file limit rounds status runs
run_of_profile held file limit rounds status runs concluded (inl stopped) = inl (record { why = stopped.why; stops = stopped.stops; reported = stopped.reported; none = stopped.none.0 })
run_of_profile held file limit rounds status runs concluded (inr ended) = inr ended.ran

-- how the rounds of a job end that were counted
pub profile_ends : (job : TextJob) (rounds : AskedRounds) (status : Status) (runs : List TextRun) (counts : GraphProfile) → JobEnds job rounds status runs → IsProfileOf (names_of job) runs counts
    → (runs ≡ [] → AreAllRounds text_job job (round_rule rounds) []) → RanProfile (λ of. of ≡ job) rounds status runs (Some (Profile counts))
profile_ends job rounds status runs counts ran is none_asked = record {
  ran = ran;
  counted = inr (counts, refl, subst (λ (of : TextJob). IsProfileOf (names_of of) runs counts) (sym ran.is) is);
  none_asked = λ some none. subst (λ (of : TextJob). AreAllRounds text_job of (round_rule rounds) []) (sym ran.is) (none_asked none);
}

-- a profile has as many names as rows
pub rows_named : (names : List (List ℕ)) (runs : List TextRun) (counts : GraphProfile) → IsProfileOf names runs counts → length counts.names ≡ length counts.table.rows
rows_named names runs counts is = ap length is.names_are ∙ row_for_each_task (length names) (map journal_of runs) counts.table is.table

-- the profile of the job that a file asks for
pub requested_profile : (held : SourceTexts) (file : List ℕ) (limit : ℕ) (job : TextJob) (rounds : AskedRounds) (status : Status) (runs : List TextRun) (concluded : Option Conclusion)
    → IsRequestedJob held file limit job → RanProfile (λ of. of ≡ job) rounds status runs concluded → ProfileEnds held file limit rounds status runs concluded
requested_profile held file limit job rounds status runs concluded requested ended =
    let ran = ended.ran in
    inr (record {
      ran = record { job = ran.job; is = subst (IsRequestedJob held file limit) (sym ran.is) requested; first = ran.first; all = ran.all; after = ran.after };
      counted = ended.counted;
      none_asked = ended.none_asked;
    })

-- ---- what is written of no runs

pub no_runs_text : (asked : Option Asked) → runs_text asked [] ≡ []
no_runs_text None = refl
no_runs_text (Some (run_of file limit workers rounds journal)) = refl
no_runs_text (Some (profile_of file limit workers rounds)) = refl
no_runs_text (Some (judge_of file name limit)) = refl
no_runs_text (Some (check_of file)) = refl
no_runs_text (Some (upgrade_of file)) = refl
no_runs_text (Some (generate_of layers workers)) = refl
no_runs_text (Some (count_of word file grain workers)) = refl

-- The rounds of a plan without conditions are those that one thread works out, as long as none is cut short.
use Rattle.std.proofs.Common.{◌≡◌, ◌⊎◌, inl, inr, ℕ, zero, suc, ◌+◌, ◌-◌, ◌<◌, ◌≤◌, Bool, true, false, List, [], ◌∷◌, ◌++◌, length, map, take, Option, Some, None, refl, sym, ap, ◌∙◌, subst, arith}
use Rattle.std.specs.Prelude.{All, IsSomeAnd, slice_get}
use Rattle.std.specs.List.{enumerate_from, flat_map}
use Rattle.std.specs.Option.{option_map_or}
use Rattle.std.proofs.lemmas.Bool.{false≢true}
use Rattle.std.proofs.lemmas.List.Elements.{All-nil, All-cons, All-head, All-map, All-tail}
use Rattle.command_line.specs.Requests.{AskedRounds, once, times, until, most_rounds}
use Rattle.nested_runs.specs.Reasons.{run_reason}
use Rattle.nested_runs.specs.Rounds.{AreAllRounds, AreFirstRounds, AreRounds, IsNextRound, LastWasCut, last_run}
use Rattle.nested_runs.specs.declared.reasons.Reason.TheVariants.{Fine}
use Rattle.run_frame.specs.Legal.{IsKept}
use Rattle.run_frame.specs.NestedRule.{job_of, journal_of}
use Rattle.run_frame.specs.Runs.{IsFine}
use Rattle.text_tasks.specs.declared.job.TextJob.{TextJob}
use Rattle.text_tasks.specs.declared.job.TextJob.TheVariants.{Graph, Parts, Pipe}
use Rattle.text_tasks.specs.JobMeaning.{JobFollows, feedback_of, text_job}
use Rattle.report_laws.specs.Output.{report_of}
use Rattle.run_laws.specs.TextAnswers.{IsPlanned}
use Rattle.report_laws.specs.PlainReport.{HasSameReport, IsPlainJob, RunsWell, plain_feedback, plain_next, plain_report}
use Rattle.run_laws.proofs.Reasons.{counts_reason, reason_counts}
use Rattle.report_laws.proofs.TextPlain.{same_report}
use Rattle.flow_run.specs.PlainRounds.{RoundsRunWell, ends_with, jobs_by_turns, plain_jobs, plain_round, plain_rounds}
use Rattle.flow_run.specs.RoundTexts.{TextRun, last_reason, line_before, round_rule, round_text, rounds_end, rounds_text}
use Rattle.flow_run.proofs.RoundLemmas.{follows_planned}

-- ---- a round and the next

-- what follows a run of a plan without conditions is of that plan
pub follows_plain : (job next : TextJob) (run : TextRun) → JobFollows job run next → IsPlainJob job → IsPlainJob next
follows_plain (Graph work) next run follows plain = subst IsPlainJob (sym follows) plain
follows_plain (Parts work) next run follows plain = absurd follows
follows_plain (Pipe work) next run follows plain = absurd follows

-- the text with which a job's graph is started
abbrev input_of : TextJob → List ℕ
input_of (Graph work) = work.input
input_of (Parts work) = []
input_of (Pipe work) = []

-- A fine run passes on what one thread does.
passes_on : (job : TextJob) (run : TextRun) → job_of run ≡ job → IsPlanned job → HasSameReport run → run_reason text_job run ≡ Fine → feedback_of run ≡ plain_feedback job
passes_on (Graph work) run is planned same fine =
    ap input_of
    (same.next fine (Graph (record work { input = feedback_of run })) (subst (λ (j : TextJob). JobFollows j run (Graph (record work { input = feedback_of run }))) (sym is) refl)
    ∙ ap plain_next is)
passes_on (Parts work) run is planned same fine = absurd planned
passes_on (Pipe work) run is planned same fine = absurd planned

-- ---- rounds that end at a text

-- whether the last of these runs passes on a text at which they end
abbrev last_ends : (List ℕ → Bool) → List TextRun → Bool
last_ends ends runs = option_map_or (λ run. ends (feedback_of run)) (last_run runs) false

never_ends : (o : Option TextRun) → false ≡ option_map_or (λ run. false) o false
never_ends None = refl
never_ends (Some run) = refl

-- So it is by what is asked for.
asked_ends : (asked : AskedRounds) (runs : List TextRun) → rounds_end asked runs ≡ last_ends (ends_with asked) runs
asked_ends once runs = never_ends (last_run runs)
asked_ends (times n) runs = never_ends (last_run runs)
asked_ends (until word) runs = refl

-- the last of two runs or more is that of all but the first
last_later : (run next : TextRun) (rest : List TextRun) → last_run (run ∷ next ∷ rest) ≡ last_run (next ∷ rest)
last_later run next rest =
    let whole : length (run ∷ next ∷ rest) - 1 ≡ suc (length rest) = omega arith in
    let part : length (next ∷ rest) - 1 ≡ length rest = omega arith in
    ap (slice_get (run ∷ next ∷ rest)) whole ∙ sym (ap (slice_get (next ∷ rest)) part)

-- The first rounds of a job, so many at most, of which none comes after one that ends them.
record AreFirst (ends : List ℕ → Bool) (most : ℕ) (job : TextJob) (runs : List TextRun) : Type 0 where
  rounds : AreRounds text_job job runs
  few : length runs ≤ most
  went_on : (n : ℕ) → n < length runs → last_ends ends (take n runs) ≡ false

first_asked : (asked : AskedRounds) (job : TextJob) (runs : List TextRun) → AreFirstRounds text_job job (round_rule asked) runs → AreFirst (ends_with asked) (most_rounds asked) job runs
first_asked asked job runs first = record { rounds = first.rounds; few = first.few; went_on = λ n below. sym (asked_ends asked (take n runs)) ∙ first.went_on n below }

-- So are those after the first round, of the job of the second.
later : (ends : List ℕ → Bool) (n : ℕ) (job : TextJob) (run next : TextRun) (rest : List TextRun) → AreFirst ends (suc n) job (run ∷ next ∷ rest) → AreFirst ends n (job_of next) (next ∷ rest)
later ends n job run next rest are = record {
  rounds = record { kept = All-tail (IsKept text_job) run (next ∷ rest) are.rounds.kept; first = refl; next = λ k. are.rounds.next (suc k) };
  few = let few = are.few in omega (arith, few);
  went_on = goes_on;
}
  where
    goes_on : (k : ℕ) → k < length (next ∷ rest) → last_ends ends (take k (next ∷ rest)) ≡ false
    goes_on zero below = refl
    goes_on (suc k) below =
        ap (λ (o : Option TextRun). option_map_or (λ r. ends (feedback_of r)) o false) (sym (last_later run next (take k rest)))
        ∙ are.went_on (suc (suc k)) (omega (arith, below))

-- ---- rounds of a plan without conditions

-- it ended fine
abbrev EndedFine : TextRun → Type 0
EndedFine run = run_reason text_job run ≡ Fine

-- the recursion over its job runs through
abbrev IsOfGoodJob : TextRun → Type 0
IsOfGoodJob run = RunsWell (job_of run)

-- it reports what one thread does
abbrev ReportsSame : TextRun → Type 0
ReportsSame run = report_of run ≡ plain_report (job_of run)

module _ (ends : List ℕ → Bool) where
  -- the jobs after a round, by whether the rounds end at it
  abbrev after : ℕ → TextJob → Bool → List TextJob
  after n job ended = elim ended [ true ↦ [] | false ↦ jobs_by_turns ends n (plain_next job) ]

  after_the_last : (job : TextJob) (n : ℕ) (ended : Bool) → n ≡ 0 → after n job ended ≡ []
  after_the_last job n true none = refl
  after_the_last job n false none = ap (λ k. jobs_by_turns ends k (plain_next job)) none

  module _ (n : ℕ) (job : TextJob) (run : TextRun) (rest : List TextRun) (plain : IsPlainJob job) (planned : IsPlanned job) (first : AreFirst ends (suc n) job (run ∷ rest)) where
    first_kept : IsKept text_job run
    first_kept = All-head (IsKept text_job) run rest first.rounds.kept

    of_job : job_of run ≡ job
    of_job = first.rounds.first

    law : HasSameReport run
    law = same_report run (subst IsPlainJob (sym of_job) plain) (subst IsPlanned (sym of_job) planned) first_kept

    fine_well : run_reason text_job run ≡ Fine → RunsWell job
    fine_well fine = subst RunsWell of_job (law.fine.0 fine)

    well_fine : RunsWell job → run_reason text_job run ≡ Fine
    well_fine well = law.fine.1 (subst RunsWell (sym of_job) well)

    passed_on : run_reason text_job run ≡ Fine → feedback_of run ≡ plain_feedback job
    passed_on fine = passes_on job run of_job planned law fine

  module _ (n : ℕ) (job : TextJob) (run next : TextRun) (rest : List TextRun) (plain : IsPlainJob job) (planned : IsPlanned job) (first : AreFirst ends (suc n) job (run ∷ next ∷ rest)) (fine : run_reason text_job run ≡ Fine) where
    on : IsNextRound text_job run next
    on = first.rounds.next 0

    next_job : job_of next ≡ plain_next job
    next_job = (law n job run (next ∷ rest) plain planned first).next fine (job_of next) on.follows ∙ ap plain_next (of_job n job run (next ∷ rest) plain planned first)

    next_plain : IsPlainJob (job_of next)
    next_plain = follows_plain job (job_of next) run (subst (λ (j : TextJob). JobFollows j run (job_of next)) (of_job n job run (next ∷ rest) plain planned first) on.follows) plain

    next_planned : IsPlanned (job_of next)
    next_planned = follows_planned job (job_of next) run (subst (λ (j : TextJob). JobFollows j run (job_of next)) (of_job n job run (next ∷ rest) plain planned first) on.follows) planned

    goes_on : ends (plain_feedback job) ≡ false
    goes_on = ap ends (sym (passed_on n job run (next ∷ rest) plain planned first fine)) ∙ first.went_on 1 (omega arith)

    -- so the jobs that are left are those of the next round
    jobs_left : after n job (ends (plain_feedback job)) ≡ jobs_by_turns ends n (job_of next)
    jobs_left = ap (after n job) goes_on ∙ ap (jobs_by_turns ends n) (sym next_job)

  -- Where each recursion runs through, each round is fine.
  each_fine : (most : ℕ) (job : TextJob) (runs : List TextRun) → IsPlainJob job → IsPlanned job → AreFirst ends most job runs → All RunsWell (jobs_by_turns ends most job)
      → All EndedFine runs
  each_fine most job [] plain planned first well = All-nil EndedFine
  each_fine zero job (run ∷ rest) plain planned first well = absurd (let few = first.few in omega (arith, few))
  each_fine (suc n) job (run ∷ []) plain planned first well =
      All-cons EndedFine run [] (well_fine n job run [] plain planned first (All-head RunsWell job _ well)) (All-nil EndedFine)
  each_fine (suc n) job (run ∷ next ∷ rest) plain planned first well =
      let fine : run_reason text_job run ≡ Fine = well_fine n job run (next ∷ rest) plain planned first (All-head RunsWell job _ well) in
      All-cons EndedFine run (next ∷ rest) fine
      (each_fine n (job_of next) (next ∷ rest) (next_plain n job run next rest plain planned first fine) (next_planned n job run next rest plain planned first fine) (later ends n job run next rest first)
      (subst (All RunsWell) (jobs_left n job run next rest plain planned first fine) (All-tail RunsWell job _ well)))

  -- What holds of rounds that are all there and fine: they have just these jobs, and report what one thread does.
  record AreByTurns (most : ℕ) (job : TextJob) (runs : List TextRun) : Type 0 where
    jobs : map job_of runs ≡ jobs_by_turns ends most job
    fine : All EndedFine runs
    well : All IsOfGoodJob runs
    reports : All ReportsSame runs

  -- they are all there
  abbrev AreOver : ℕ → List TextRun → Type 0
  AreOver most runs = (length runs ≡ most) ⊎ (last_ends ends runs ≡ true) ⊎ LastWasCut runs

  over_later : (n : ℕ) (run next : TextRun) (rest : List TextRun) → AreOver (suc n) (run ∷ next ∷ rest) → AreOver n (next ∷ rest)
  over_later n run next rest (inl same) = inl (omega (arith, same))
  over_later n run next rest (inr (inl ended)) = inr (inl (ap (λ (o : Option TextRun). option_map_or (λ r. ends (feedback_of r)) o false) (sym (last_later run next rest)) ∙ ended))
  over_later n run next rest (inr (inr cut)) = inr (inr (subst (λ (o : Option TextRun). IsSomeAnd o (λ r. ¬ IsFine (journal_of r))) (last_later run next rest) cut))

  one_more : (n : ℕ) (job : TextJob) (run : TextRun) (rest : List TextRun) (plain : IsPlainJob job) (planned : IsPlanned job) (first : AreFirst ends (suc n) job (run ∷ rest)) → run_reason text_job run ≡ Fine
      → map job_of rest ≡ after n job (ends (plain_feedback job)) → All EndedFine rest → All IsOfGoodJob rest → All ReportsSame rest → AreByTurns (suc n) job (run ∷ rest)
  one_more n job run rest plain planned first fine jobs others well reports =
      let same = law n job run rest plain planned first in
      record {
        jobs = ap (λ (j : TextJob). j ∷ map job_of rest) (of_job n job run rest plain planned first) ∙ ap (λ js. job ∷ js) jobs;
        fine = All-cons EndedFine run rest fine others;
        well = All-cons IsOfGoodJob run rest (same.fine.0 fine) well;
        reports = All-cons ReportsSame run rest (same.report fine) reports;
      }

  all_by_turns : (most : ℕ) (job : TextJob) (runs : List TextRun) → IsPlainJob job → IsPlanned job → AreFirst ends most job runs → AreOver most runs → last_reason runs ≡ Fine → AreByTurns most job runs
  all_by_turns zero job [] plain planned first over fine = record { jobs = refl; fine = All-nil EndedFine; well = All-nil IsOfGoodJob; reports = All-nil ReportsSame }
  all_by_turns (suc n) job [] plain planned first (inl same) fine = absurd (omega (arith, same))
  all_by_turns (suc n) job [] plain planned first (inr (inl ended)) fine = absurd (false≢true ended)
  all_by_turns (suc n) job [] plain planned first (inr (inr cut)) fine = absurd cut
  all_by_turns zero job (run ∷ rest) plain planned first over fine = absurd (let few = first.few in omega (arith, few))
  all_by_turns (suc n) job (run ∷ []) plain planned first over fine =
      one_more n job run [] plain planned first fine (sym (by_end over)) (All-nil EndedFine) (All-nil IsOfGoodJob) (All-nil ReportsSame)
    where
      by_end : AreOver (suc n) (run ∷ []) → after n job (ends (plain_feedback job)) ≡ []
      by_end (inl same) = after_the_last job n (ends (plain_feedback job)) (omega (arith, same))
      by_end (inr (inl ended)) = ap (after n job) (ap ends (sym (passed_on n job run [] plain planned first fine)) ∙ ended)
      by_end (inr (inr cut)) = absurd (cut (reason_counts text_job run (first_kept n job run [] plain planned first).legal fine))
  all_by_turns (suc n) job (run ∷ next ∷ rest) plain planned first over fine =
      let here : run_reason text_job run ≡ Fine = counts_reason text_job run (first.rounds.next 0).fine in
      let others : AreByTurns n (job_of next) (next ∷ rest) =
      all_by_turns n (job_of next) (next ∷ rest) (next_plain n job run next rest plain planned first here) (next_planned n job run next rest plain planned first here) (later ends n job run next rest first)
      (over_later n run next rest over) (ap (λ (o : Option TextRun). option_map_or (run_reason text_job) o Fine) (sym (last_later run next rest)) ∙ fine) in
      one_more n job run (next ∷ rest) plain planned first here (others.jobs ∙ sym (jobs_left n job run next rest plain planned first here)) others.fine others.well others.reports

-- what is written of runs that report what one thread does
written_same : (asked : AskedRounds) (n : ℕ) (runs : List TextRun) → All ReportsSame runs
    → flat_map (round_text asked false) (enumerate_from n runs) ≡ flat_map (plain_round asked) (enumerate_from n (map job_of runs))
written_same asked n [] same = refl
written_same asked n (run ∷ rest) same =
    ap (λ text. (line_before asked n ++ text) ++ flat_map (round_text asked false) (enumerate_from (n + 1) rest)) (All-head ReportsSame run rest same)
    ∙ ap (λ text. plain_round asked (n, job_of run) ++ text) (written_same asked (n + 1) rest (All-tail ReportsSame run rest same))

-- ---- the rounds that are asked for

module _ (asked : AskedRounds) (job : TextJob) (runs : List TextRun) (plain : IsPlainJob job) (planned : IsPlanned job) where
  -- Where each recursion runs through, each round is fine.
  pub plain_rounds_fine : AreFirstRounds text_job job (round_rule asked) runs → RoundsRunWell asked job → All (λ run. run_reason text_job run ≡ Fine) runs
  plain_rounds_fine first well = each_fine (ends_with asked) (most_rounds asked) job runs plain planned (first_asked asked job runs first) well

  -- All rounds, of which the last is fine, are those by one thread.
  by_turns : AreAllRounds text_job job (round_rule asked) runs → last_reason runs ≡ Fine → AreByTurns (ends_with asked) (most_rounds asked) job runs
  by_turns all fine = all_by_turns (ends_with asked) (most_rounds asked) job runs plain planned (first_asked asked job runs all.first) (over all.over) fine
    where
      over : (length runs ≡ most_rounds asked) ⊎ (rounds_end asked runs ≡ true) ⊎ LastWasCut runs → AreOver (ends_with asked) (most_rounds asked) runs
      over (inl same) = inl same
      over (inr (inl ended)) = inr (inl (sym (asked_ends asked runs) ∙ ended))
      over (inr (inr cut)) = inr (inr cut)

  -- So they have these jobs, and each is fine;
  pub plain_rounds_jobs : AreAllRounds text_job job (round_rule asked) runs → last_reason runs ≡ Fine → map job_of runs ≡ plain_jobs asked job
  plain_rounds_jobs all fine = (by_turns all fine).jobs

  pub plain_rounds_all_fine : AreAllRounds text_job job (round_rule asked) runs → last_reason runs ≡ Fine → All EndedFine runs
  plain_rounds_all_fine all fine = (by_turns all fine).fine

  -- each recursion runs through,
  pub plain_rounds_well : AreAllRounds text_job job (round_rule asked) runs → last_reason runs ≡ Fine → RoundsRunWell asked job
  plain_rounds_well all fine = let are = by_turns all fine in subst (All RunsWell) are.jobs (All-map RunsWell job_of runs are.well)

  -- and what is written of the rounds is what one thread writes.
  pub plain_rounds_written : AreAllRounds text_job job (round_rule asked) runs → last_reason runs ≡ Fine → rounds_text asked false runs ≡ plain_rounds asked job
  plain_rounds_written all fine =
      let are = by_turns all fine in
      written_same asked 1 runs are.reports ∙ ap (λ jobs. flat_map (plain_round asked) (enumerate_from 1 jobs)) are.jobs

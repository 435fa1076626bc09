-- Which rounds a call runs and what is written of them, computed.
use Rattle.std.specs.Fmt.{digits}
use Rattle.std.proofs.Common.{◌≡◌, ◌≢◌, ◌<◌, ℕ, zero, suc, List, [], ◌∷◌, ◌++◌, take, false, true, inl, inr, refl, sym, ap, ◌∙◌, subst, arith, codes}
use Rattle.std.specs.Prelude.{IfSome, slice_get}
use Rattle.std.proofs.lemmas.Bool.{false≢true}
use Rattle.std.proofs.lemmas.List.Elements.{All-nil, All-cons, All-head}
use Rattle.call_status.specs.Statuses.{status_after}
use Rattle.call_status.specs.declared.status.Status.TheVariants.{Done, NoMemory, NoText, Stuck, WriteFault}
use Rattle.command_line.specs.Requests.{AskedRounds, once, times, until, most_rounds}
use Rattle.journal_text.specs.declared.version.Version.TheVariants.{Two}
use Rattle.journal_text.specs.JournalText.{journal_text}
use Rattle.nested_runs.specs.Reasons.{run_reason}
use Rattle.nested_runs.specs.Rounds.{AreFirstRounds, AreRounds, IsNextRound, times as so_many}
use Rattle.nested_runs.specs.declared.reasons.Reason.TheVariants as reason
use Rattle.run_frame.specs.Legal.{IsKept}
use Rattle.run_frame.specs.NestedRule.{job_of, journal_of}
use Rattle.run_frame.specs.Runs.{IsFine}
use Rattle.report_laws.specs.Output.{report_of}
use Rattle.text_ops.specs.TextMeaning.{has_word}
use Rattle.text_tasks.specs.GraphWork.{GraphWork}
use Rattle.text_tasks.specs.PartsWork.{PartsWork}
use Rattle.text_tasks.specs.PipeWork.{PipeWork}
use Rattle.text_tasks.specs.declared.job.TextJob.{TextJob}
use Rattle.text_tasks.specs.declared.job.TextJob.TheVariants.{Graph, Parts, Pipe}
use Rattle.text_tasks.specs.JobMeaning.{IsGraphJob, feedback_of, limit_of, text_job}
use Rattle.flow_run.specs.Requests.{SourceTexts, IsRequestedJob}
use Rattle.flow_run.specs.Answers.{IsAfterRun, JobEnds, RanRounds, RunEnds}
use Rattle.flow_run.specs.RoundTexts.{TextRun, last_has, last_reason, line_before, round_line, round_rule, round_text, rounds_end, rounds_text, run_text}

-- ---- how many rounds there may be, and what ends them before

most_of_each : (word : List ℕ) → ((round_rule once).most ≡ 1) × ((round_rule (times 7)).most ≡ 7) × ((round_rule (until word)).most ≡ 1000)
most_of_each word = (refl, refl, refl)

number_is_that_rule : (n : ℕ) → (round_rule (times n) ≡ so_many n) × (round_rule once ≡ so_many 1)
number_is_that_rule n = (refl, refl)

no_word_before_the_first : (word : List ℕ) → (last_has word [] ≡ false) × ((round_rule (until word)).ends [] ≡ false)
no_word_before_the_first word = (refl, refl)

nothing_cut_short_before_the_first : last_reason [] ≡ reason.Fine
nothing_cut_short_before_the_first = refl

module _ (run other : TextRun) where
  -- a number of rounds ends them at no earlier one
  number_ends_none : (rounds_end once (run ∷ []) ≡ false) × (rounds_end (times 7) (run ∷ other ∷ []) ≡ false)
  number_ends_none = (refl, refl)

  last_is_asked : (word : List ℕ) → (last_has word (run ∷ other ∷ []) ≡ has_word word (feedback_of other)) × (rounds_end (until word) (run ∷ []) ≡ has_word word (feedback_of run))
  last_is_asked word = (refl, refl)

  word_handed_on : feedback_of run ≡ codes "x y\nz\n" → (rounds_end (until (codes "y")) (run ∷ []) ≡ true) × (rounds_end (until (codes "y\nz")) (run ∷ []) ≡ false)
  word_handed_on text = (ap (has_word (codes "y")) text, ap (has_word (codes "y\nz")) text)

  last_was_cut_short : last_reason (run ∷ other ∷ []) ≡ run_reason text_job other
  last_was_cut_short = refl

-- ---- what is written

line_of_a_round : round_line 120 ≡ codes "## round 120\n"
unfolding digits
line_of_a_round = refl

module _ (run other : TextRun) where
  report_or_journal : (run_text false run ≡ report_of run) × (run_text true run ≡ journal_text Two (journal_of run))
  report_or_journal = (refl, refl)

  -- only where a number or a word is asked for, it has its line
  lines_of_rounds : (word : List ℕ) → (line_before once 3 ≡ []) × (line_before (times 1) 3 ≡ round_line 3) × (line_before (until word) 3 ≡ round_line 3)
  lines_of_rounds word = (refl, refl, refl)

  line_before_a_round : (round_text once false (3, run) ≡ report_of run) × (round_text (times 1) true (3, run) ≡ round_line 3 ++ journal_text Two (journal_of run))
  line_before_a_round = (refl, refl)

  nothing_of_no_round : (rounds : AskedRounds) → rounds_text rounds false [] ≡ []
  nothing_of_no_round rounds = refl

  report_of_a_run : rounds_text once false (run ∷ []) ≡ report_of run ++ []
  report_of_a_run = refl

  -- they are counted from 1, and follow each other
  of_two_rounds : rounds_text (times 2) true (run ∷ other ∷ []) ≡ (round_line 1 ++ journal_text Two (journal_of run)) ++ ((round_line 2 ++ journal_text Two (journal_of other)) ++ [])
  of_two_rounds = refl

-- ---- the rounds of a job

of_graphs_alone : (work : GraphWork) (parts : PartsWork) (pipes : PipeWork) → IsGraphJob (Graph work) × ¬ IsGraphJob (Parts parts) × ¬ IsGraphJob (Pipe pipes)
of_graphs_alone work parts pipes = (tt, (λ is. is), (λ is. is))

module _ (job : TextJob) where
  no_rounds : (rounds : AskedRounds) → AreFirstRounds text_job job (round_rule rounds) []
  no_rounds rounds = record { rounds = record { kept = All-nil _; first = tt; next = λ n. tt }; few = omega arith; went_on = λ n below. absurd (omega (arith, below)) }

  none_asked_for : JobEnds job (times 0) Done []
  none_asked_for = record { job = job; is = refl; first = no_rounds (times 0); all = λ memory. record { first = no_rounds (times 0); over = inl refl }; after = inl refl }

  none_without_memory : (rounds : AskedRounds) → JobEnds job rounds NoMemory []
  none_without_memory rounds = record { job = job; is = refl; first = no_rounds rounds; all = λ some. absurd (some refl); after = inr (inr refl) }

  done_without_a_round : (rounds : AskedRounds) → most_rounds rounds ≡ 1 → rounds_end rounds [] ≡ false → ¬ JobEnds job rounds Done []
  done_without_a_round rounds one goes is = elim (is.all (λ (memory : Done ≡ NoMemory). absurd (cc))).over [
    | inl same ↦ omega (arith, same, one)
    | inr (inl ends) ↦ false≢true (sym goes ∙ ends)
    | inr (inr cut) ↦ cut
  ]

  read_fault_after_a_round : (runs : List TextRun) → last_reason runs ≡ reason.Fine → ¬ JobEnds job once (NoText []) runs
  read_fault_after_a_round runs fine is = by_case (subst (λ why. IsAfterRun why (NoText [])) fine is.after)
    where
      by_case : ¬ IsAfterRun reason.Fine (NoText [])
      by_case (inl same) = absurd (cc)
      by_case (inr (inl (well, same))) = absurd (cc)
      by_case (inr (inr same)) = absurd (cc)

  round_of_another_job : (run : TextRun) (rounds : AskedRounds) → limit_of (job_of run) ≡ 76 → limit_of job ≡ 77 → ¬ JobEnds job rounds Done (run ∷ [])
  round_of_another_job run rounds limit other is = absurd (omega (arith, limit, other, ap limit_of is.first.rounds.first, ap limit_of is.is))

  more_than_asked_for : (run other : TextRun) → ¬ JobEnds job once NoMemory (run ∷ other ∷ []) × ¬ JobEnds job (times 0) NoMemory (run ∷ [])
  more_than_asked_for run other = (λ is. absurd (omega (arith, is.first.few)), λ is. absurd (omega (arith, is.first.few)))

  round_that_is_not_kept : (run : TextRun) (rounds : AskedRounds) → ¬ IsKept text_job run → ¬ JobEnds job rounds NoMemory (run ∷ [])
  round_that_is_not_kept run rounds never is = never (All-head (IsKept text_job) run [] is.first.rounds.kept)

  round_after_a_cut : (run other : TextRun) (rounds : AskedRounds) → ¬ IsFine (journal_of run) → ¬ JobEnds job rounds Done (run ∷ other ∷ [])
  round_after_a_cut run other rounds cut is = cut (is.first.rounds.next 0).fine

  round_with_another_input : (run other : TextRun) (rounds : AskedRounds) → ¬ text_job.follows (job_of run) run (job_of other) → ¬ JobEnds job rounds Done (run ∷ other ∷ [])
  round_with_another_input run other rounds never is = never (is.first.rounds.next 0).follows

  round_after_the_word : (run other : TextRun) (word : List ℕ) → has_word word (feedback_of run) ≡ true → ¬ JobEnds job (until word) Done (run ∷ other ∷ [])
  round_after_the_word run other word has is = false≢true (sym (is.first.went_on 1 (omega arith)) ∙ has)

  stuck_round_called_done : (run : TextRun) (rounds : AskedRounds) → run_reason text_job run ≡ reason.Stuck (3 ∷ []) → ¬ JobEnds job rounds Done (run ∷ [])
  stuck_round_called_done run rounds stuck is = by_case (subst (λ why. IsAfterRun why Done) stuck is.after)
    where
      by_case : ¬ IsAfterRun (reason.Stuck (3 ∷ [])) Done
      by_case (inl told) = absurd (cc)
      by_case (inr (inl (fine, told))) = absurd (cc)
      by_case (inr (inr told)) = absurd (cc)

-- the job is the one that the file asks for
run_of_another_limit : (held : SourceTexts) (file : List ℕ) (run : TextRun) → limit_of (job_of run) ≡ 76 → ¬ RunEnds held file 77 once Done (run ∷ [])
run_of_another_limit held file run limit (inl stopped) = let none : run ∷ [] ≡ [] = stopped.none in absurd (cc)
run_of_another_limit held file run limit (inr ran) = absurd (omega (arith, limit, ap limit_of ran.first.rounds.first, starts ran.job ran.is))
  where
    starts : (job : TextJob) → IsRequestedJob held file 77 job → limit_of job ≡ 77
    starts (Graph work) is = is.starts
    starts (Parts work) is = absurd is
    starts (Pipe work) is = absurd is

-- ---- a first round

module _ (run : TextRun) (kept : IsKept text_job run) where
  one_is_rounds : AreRounds text_job (job_of run) (run ∷ [])
  one_is_rounds = record { kept = All-cons (IsKept text_job) run [] kept (All-nil _); first = refl; next = after }
    where
      after : (n : ℕ) → IfSome (slice_get (run ∷ []) n) (λ last. IfSome (slice_get (run ∷ []) (suc n)) (IsNextRound text_job last))
      after zero = tt
      after (suc n) = tt

  is_first_round : (rounds : AskedRounds) → most_rounds rounds ≢ 0 → rounds_end rounds [] ≡ false → AreFirstRounds text_job (job_of run) (round_rule rounds) (run ∷ [])
  is_first_round rounds some goes = record { rounds = one_is_rounds; few = omega (arith, some); went_on = went }
    where
      went : (n : ℕ) → n < 1 → rounds_end rounds (take n (run ∷ [])) ≡ false
      went zero below = goes
      went (suc n) below = absurd (omega (arith, below))

  first_of_two : most_rounds (times 2) ≢ 0
  first_of_two same = absurd (omega (arith, same))

  module _ (fine : run_reason text_job run ≡ reason.Fine) where
    ran_once : RanRounds (λ job. job ≡ job_of run) once Done (run ∷ [])
    ran_once =
        let first = is_first_round once (λ same. absurd (omega (arith, same))) refl in
        record { job = job_of run; is = refl; first = first; all = λ memory. record { first = first; over = inl refl }; after = inl (ap status_after (sym fine)) }

    ran_as_the_file_asks : (held : SourceTexts) (file : List ℕ) → IsRequestedJob held file 77 (job_of run) → RunEnds held file 77 once Done (run ∷ [])
    unfolding ran_once
    ran_as_the_file_asks held file asked = inr (record { job = job_of run; is = asked; first = ran_once.first; all = ran_once.all; after = ran_once.after })

    ran_until_its_word : (word : List ℕ) → has_word word (feedback_of run) ≡ true → JobEnds (job_of run) (until word) WriteFault (run ∷ [])
    ran_until_its_word word has =
        let first = is_first_round (until word) (λ same. absurd (omega (arith, same))) refl in
        record { job = job_of run; is = refl; first = first; all = λ memory. record { first = first; over = inr (inl has) }; after = inr (inl (fine, refl)) }

    memory_behind_the_first : JobEnds (job_of run) (times 2) NoMemory (run ∷ [])
    memory_behind_the_first = record { job = job_of run; is = refl; first = is_first_round (times 2) first_of_two refl; all = λ some. absurd (some refl); after = inr (inr refl) }

  -- where something was cut short in it, it is the last
  cut_in_the_first : run_reason text_job run ≡ reason.Stuck (3 ∷ []) → ¬ IsFine (journal_of run) → JobEnds (job_of run) (times 2) (Stuck (3 ∷ [])) (run ∷ [])
  cut_in_the_first stuck cut =
      let first = is_first_round (times 2) first_of_two refl in
      record { job = job_of run; is = refl; first = first; all = λ memory. record { first = first; over = inr (inr cut) }; after = inl (ap status_after (sym stuck)) }

  done_before_the_last : IsFine (journal_of run) → ¬ JobEnds (job_of run) (times 2) Done (run ∷ [])
  done_before_the_last fine is = elim (is.all (λ (memory : Done ≡ NoMemory). absurd (cc))).over [
    | inl same ↦ omega (arith, same)
    | inr (inl ends) ↦ false≢true ends
    | inr (inr cut) ↦ cut fine
  ]

  done_before_the_word : (word : List ℕ) → IsFine (journal_of run) → has_word word (feedback_of run) ≡ false → ¬ JobEnds (job_of run) (until word) Done (run ∷ [])
  done_before_the_word word fine hasnt is = elim (is.all (λ (memory : Done ≡ NoMemory). absurd (cc))).over [
    | inl same ↦ omega (arith, same)
    | inr (inl ends) ↦ false≢true (sym hasnt ∙ ends)
    | inr (inr cut) ↦ cut fine
  ]

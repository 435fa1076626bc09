-- What a profile of rounds is, how a call ends that is to write one, and what it writes, computed on a graph file `g`
-- of one byte.
use Rattle.std.specs.Fmt.{digits}
use Rattle.std.proofs.Common.{◌≡◌, ℕ, ◌+◌, List, [], ◌∷◌, ◌++◌, length, Option, Some, None, Bool, false, inl, inr, refl, sym, ap, ◌∙◌, arith, codes, subst}
use Rattle.std.specs.Prelude.{◌⊎◌, bytes_eq, if◌then◌else◌, min, sum_by}
use Rattle.std.proofs.lemmas.Bool.{false≢true}
use Rattle.journal_rules.specs.declared.entry.Cause.TheVariants.{Source, Strong}
use Rattle.journal_rules.specs.declared.entry.DropWhy.TheVariants.{Stuck as WantsUnit}
use Rattle.journal_rules.specs.declared.entry.Entry.{Entry}
use Rattle.journal_rules.specs.declared.entry.Entry.TheVariants.{Start, End, Drop}
use Rattle.legal_run.specs.declared.verdict.Verdict.TheVariants.{Complete as Finished}
use Rattle.nested_runs.specs.Reasons.{run_reason}
use Rattle.nested_runs.specs.Totals.{all_spans}
use Rattle.nested_runs.specs.declared.reasons.Reason.TheVariants as reason
use Rattle.call_status.specs.Reasons.{reason_line}
use Rattle.call_status.specs.declared.status.Status.{Status}
use Rattle.call_status.specs.declared.status.Status.TheVariants.{Done, NoText, NoMemory}
use Rattle.call_status.specs.declared.stop.Stop.{Stop}
use Rattle.call_status.specs.declared.stop.Stop.TheVariants as stop
use Rattle.call_status.specs.Statuses.{status_of}
use Rattle.command_line.specs.Requests.{AskedRounds, asked_by, once, times, run as run_asked, profile as profile_asked, judge as judge_asked}
use Rattle.graph_plans.specs.PlanRows.{PlanRows}
use Rattle.profile_table.specs.Profiles.{Profile, profile_of}
use Rattle.profile_table.specs.ProfileText.{profile_text}
use Rattle.profile_table.specs.declared.row.TableRow.{TableRow}
use Rattle.run_frame.specs.NestedRule.{job_of, journal_of}
use Rattle.text_tasks.specs.GraphWork.{first_work}
use Rattle.text_tasks.specs.declared.job.TextJob.{TextJob}
use Rattle.text_tasks.specs.declared.job.TextJob.TheVariants.{Graph, Parts, Pipe}
use Rattle.text_tasks.specs.JobMeaning.{job_plan, limit_of, names_of, text_job}
use Rattle.flow_run.specs.declared.conclusion.Conclusion.{Conclusion}
use Rattle.flow_run.specs.declared.conclusion.Conclusion.TheVariants as conclusion
use Rattle.flow_run.specs.declared.conclusion.GraphProfile.{GraphProfile}
use Rattle.flow_run.specs.Requests.{SourceTexts, IsRequestedJob}
use Rattle.flow_run.specs.Answers.{AskedEnds, CallEnds, IsAfterRun, ProfileEnds, RanProfile, RanRounds, conclusion_text, output_of, runs_text}
use Rattle.flow_run.specs.Profiles.{IsProfileOf, graph_profile_text, plan_run, spans_of_all}
use Rattle.flow_run.specs.RoundTexts.{TextRun, round_rule, rounds_text}
use Rattle.flow_run.proofs.RoundLemmas.{no_round}

abbrev g : List ℕ
g = 0 ∷ []

abbrev u : List ℕ
u = 2 ∷ []

-- what is held: a byte under `g`
abbrev held : SourceTexts
held = Some (λ name. if bytes_eq name g then Some (1 ∷ []) else None)

-- ---- the profile of some rounds of a graph with the tasks `a` and `b`

abbrev names : List (List ℕ)
names = codes "a" ∷ codes "b" ∷ []

-- the row with these numbers of starts, ends, faults and drops
abbrev row : ℕ → ℕ → ℕ → ℕ → TableRow
row starts ends faults drops = record { starts = starts; ends = ends; faults = faults; drops = drops }

-- `a` ends, and `b` waits for a unit that never comes
abbrev b_waits : List Entry
b_waits = Start 0 Source [] ∷ End 0 (0 ∷ []) false ∷ Drop 1 Strong (WantsUnit 0) ∷ []

abbrev of_no_round : GraphProfile
of_no_round = record { names = names; table = record { rows = row 0 0 0 0 ∷ row 0 0 0 0 ∷ []; entries = 0 }; spans = 0; last_line = [] }

abbrev of_one_round : GraphProfile
of_one_round = record { names = names; table = record { rows = row 1 1 0 0 ∷ row 0 0 0 1 ∷ []; entries = 3 }; spans = 1; last_line = codes "!! stuck b\n" }

-- the starts of the first task
abbrev first_starts : List TableRow → ℕ
first_starts [] = 0
first_starts (first ∷ rest) = first.starts

-- Without a round each task has its row, of zeros, and there is no last line.
zeros_of_no_round : IsProfileOf names [] of_no_round
zeros_of_no_round = record { names_are = refl; table = refl; spans = refl; last_line = refl }

names_of_no_task : ¬ IsProfileOf names [] (record of_no_round { names = [] })
names_of_no_task is = let same : [] ≡ codes "a" ∷ codes "b" ∷ [] = is.names_are in absurd (cc)

row_left_out : ¬ IsProfileOf names [] (record of_no_round { table = record { rows = row 0 0 0 0 ∷ []; entries = 0 } })
row_left_out is = let rows : 1 ≡ 2 = ap (λ (p : Profile). length p.rows) is.table in absurd (omega (arith, rows))

start_without_a_round : ¬ IsProfileOf names [] (record of_no_round { table = record { rows = row 1 0 0 0 ∷ row 0 0 0 0 ∷ []; entries = 0 } })
start_without_a_round is = let starts : 1 ≡ 0 = ap (λ (p : Profile). first_starts p.rows) is.table in absurd (omega (arith, starts))

span_without_a_round : ¬ IsProfileOf names [] (record of_no_round { spans = 1 })
span_without_a_round is = let spans : 1 ≡ 0 = is.spans in absurd (omega (arith, spans))

line_without_a_round : ¬ IsProfileOf names [] (record of_no_round { last_line = 33 ∷ [] })
line_without_a_round is = let line : 33 ∷ [] ≡ [] = is.last_line in absurd (cc)

plan_of_no_round : plan_run [] ≡ None
plan_of_no_round = refl

no_spans : spans_of_all [] ≡ 0
no_spans = refl

module _ (first second : TextRun) where
  plan_of_the_first : plan_run (first ∷ second ∷ []) ≡ job_plan (job_of first)
  plan_of_the_first = refl

  -- The spans of the rounds are added up, each with those of the runs inside it; at the greatest u64 they stay there.
  spans_of_two_rounds : all_spans first ≡ 2 → all_spans second ≡ 5 → spans_of_all (first ∷ second ∷ []) ≡ 7
  spans_of_two_rounds two five =
      ap (λ n. min (0 + n + all_spans second) 18446744073709551615) two ∙ ap (λ n. min (0 + 2 + n) 18446744073709551615) five

  spans_beyond_the_greatest : all_spans first ≡ 18446744073709551615 → all_spans second ≡ 5 → spans_of_all (first ∷ second ∷ []) ≡ 18446744073709551615
  spans_beyond_the_greatest most five =
      ap (λ n. min (0 + n + all_spans second) 18446744073709551615) most ∙ ap (λ n. min (0 + 18446744073709551615 + n) 18446744073709551615) five

-- the plan of that graph
abbrev plan : PlanRows
plan = record { top = record { name = []; names = names; ops = []; sem_names = []; net = record { tasks = []; edges = []; sems = [] } }; modules = []; texts = [] }

module _ (run : TextRun) (its_job : job_of run ≡ Graph (first_work plan [] 10)) (its_journal : journal_of run ≡ b_waits) (one : all_spans run ≡ 1) (stuck : run_reason text_job run ≡ reason.Stuck (1 ∷ [])) where
  profile_of_a_round : IsProfileOf names (run ∷ []) of_one_round
  profile_of_a_round = record {
    names_are = refl;
    table = sym (ap (λ entries. profile_of 2 (entries ∷ [])) its_journal);
    spans = sym (ap (λ n. min (0 + n) 18446744073709551615) one);
    last_line = sym (ap (λ job. reason_line (job_plan job) (run_reason text_job run)) its_job ∙ ap (λ why. reason_line (Some plan) why) stuck);
  }

  round_left_out : ¬ IsProfileOf names (run ∷ []) (record of_one_round { table = of_no_round.table })
  round_left_out is =
      let entries : 0 ≡ 3 = ap (λ (p : Profile). p.entries) is.table ∙ ap (λ entries. sum_by length (entries ∷ [])) its_journal in
      absurd (omega (arith, entries))

  spans_left_out : ¬ IsProfileOf names (run ∷ []) (record of_one_round { spans = 0 })
  spans_left_out is =
      let spans : 0 ≡ 1 = is.spans ∙ ap (λ n. min (0 + n) 18446744073709551615) one in
      absurd (omega (arith, spans))

  -- a round that was cut short has its line
  line_left_out : ¬ IsProfileOf names (run ∷ []) (record of_one_round { last_line = [] })
  line_left_out is =
      let line : [] ≡ codes "!! stuck b\n" = is.last_line ∙ (ap (λ job. reason_line (job_plan job) (run_reason text_job run)) its_job ∙ ap (λ why. reason_line (Some plan) why) stuck) in
      let lengths : 0 ≡ 11 = ap length line in
      absurd (omega (arith, lengths))

-- ---- what is written of it

-- The table, and behind it why the last round was cut short.
text_of_a_profile : graph_profile_text of_one_round
    ≡ codes "task                   starts     ends   faults    drops\n"
    ++ codes "a                           1        1        0        0\n"
    ++ codes "b                           0        0        0        1\n"
    ++ codes "spans                       1\n"
    ++ codes "!! stuck b\n"
unfolding digits profile_text
text_of_a_profile = refl

-- of runs only what a run is asked for: a profile has neither their reports nor their journals
module _ (run : TextRun) where
  texts_of_runs : (journal : Bool) → runs_text (Some (run_asked g 9 4 (times 2) journal)) (run ∷ []) ≡ rounds_text (times 2) journal (run ∷ [])
  texts_of_runs journal = refl

  no_reports_else : (runs_text (Some (profile_asked g 9 4 once)) (run ∷ []) ≡ []) × (runs_text (Some (judge_asked g u 9)) (run ∷ []) ≡ []) × (runs_text None (run ∷ []) ≡ [])
  no_reports_else = (refl, refl, refl)

  profile_told : (counts : GraphProfile) → conclusion_text (Some (conclusion.Profile counts)) ≡ graph_profile_text counts
  profile_told counts = refl

  output_of_a_profile : (arguments : List (List ℕ)) (counts : GraphProfile) → asked_by arguments ≡ Some (profile_asked g 9 4 once)
      → output_of arguments (run ∷ []) (Some (conclusion.Profile counts)) ≡ graph_profile_text counts
  output_of_a_profile arguments counts asks = ap (λ asked. runs_text asked (run ∷ []) ++ graph_profile_text counts) asks

-- ---- how the rounds of a job end that are counted

-- what rounds come to that were run
abbrev Counted : List (List ℕ) → Status → List TextRun → Option Conclusion → Type 0
Counted of status runs concluded = ((status ≡ NoMemory) × (concluded ≡ None)) ⊎ ((counts : GraphProfile) × (concluded ≡ Some (conclusion.Profile counts)) × IsProfileOf of runs counts)

done_and_uncounted : (of : List (List ℕ)) (runs : List TextRun) → ¬ Counted of Done runs None
done_and_uncounted of runs (inl (same, none)) = absurd (cc)
done_and_uncounted of runs (inr (counts, only, is)) = absurd (cc)

missing_and_uncounted : (of : List (List ℕ)) (runs : List TextRun) → ¬ Counted of (NoText u) runs None
missing_and_uncounted of runs (inl (same, none)) = absurd (cc)
missing_and_uncounted of runs (inr (counts, only, is)) = absurd (cc)

verdict_for_a_table : (of : List (List ℕ)) (runs : List TextRun) → ¬ Counted of Done runs (Some (conclusion.Verdict Finished))
verdict_for_a_table of runs (inl (same, none)) = absurd (cc)
verdict_for_a_table of runs (inr (counts, only, is)) = absurd (cc)

module _ (job : TextJob) where
  -- no round, where none is asked for
  abbrev ran_none : RanRounds (λ of. of ≡ job) (times 0) Done []
  ran_none = record { job = job; is = refl; first = no_round job (round_rule (times 0)); all = λ memory. record { first = no_round job (round_rule (times 0)); over = inl refl }; after = inl refl }

  counted_without_a_round : (counts : GraphProfile) → IsProfileOf (names_of job) [] counts → RanProfile (λ of. of ≡ job) (times 0) Done [] (Some (conclusion.Profile counts))
  counted_without_a_round counts is = record { ran = ran_none; counted = inr (counts, refl, is); none_asked = λ some none. ran_none.all (λ (memory : Done ≡ NoMemory). absurd (cc)) }

  no_memory_to_count : (rounds : AskedRounds) → RanProfile (λ of. of ≡ job) rounds NoMemory [] None
  no_memory_to_count rounds = record {
    ran = record { job = job; is = refl; first = no_round job (round_rule rounds); all = λ some. absurd (some refl); after = inr (inr refl) };
    counted = inl (refl, refl);
    none_asked = λ some none. absurd (some refl);
  }

  -- no table of zeros where memory ran out in the first round
  counted_before_a_round : (counts : GraphProfile) → ¬ RanProfile (λ of. of ≡ job) once NoMemory [] (Some (conclusion.Profile counts))
  counted_before_a_round counts is = elim (is.none_asked (λ (none : Some (conclusion.Profile counts) ≡ None). absurd (cc)) refl).over [
    | inl same ↦ omega (arith, same)
    | inr (inl ends) ↦ false≢true ends
    | inr (inr cut) ↦ cut
  ]

  done_without_a_table : (rounds : AskedRounds) (runs : List TextRun) → ¬ RanProfile (λ of. of ≡ job) rounds Done runs None
  done_without_a_table rounds runs is = done_and_uncounted (names_of is.ran.job) runs is.counted

  verdict_in_place_of_a_table : (rounds : AskedRounds) (runs : List TextRun) → ¬ RanProfile (λ of. of ≡ job) rounds Done runs (Some (conclusion.Verdict Finished))
  verdict_in_place_of_a_table rounds runs is = verdict_for_a_table (names_of is.ran.job) runs is.counted

  -- a table alone is no round
  round_left_away : (counts : GraphProfile) → ¬ RanProfile (λ of. of ≡ job) once Done [] (Some (conclusion.Profile counts))
  round_left_away counts is = elim (is.ran.all (λ (memory : Done ≡ NoMemory). absurd (cc))).over [
    | inl same ↦ omega (arith, same)
    | inr (inl ends) ↦ false≢true ends
    | inr (inr cut) ↦ cut
  ]

  -- the table is that of these rounds, and its names are those of the job
  table_of_other_rounds : (counts : GraphProfile) → counts.spans ≡ 1 → ¬ RanProfile (λ of. of ≡ job) (times 0) Done [] (Some (conclusion.Profile counts))
  table_of_other_rounds counts one is = by_case (names_of is.ran.job) is.counted
    where
      by_case : (of : List (List ℕ)) → ¬ Counted of Done [] (Some (conclusion.Profile counts))
      by_case of (inl (same, none)) = absurd (cc)
      by_case of (inr (other, only, of_them)) =
          let same : counts ≡ other = cc in
          let spans : 1 ≡ 0 = sym one ∙ (ap (λ (c : GraphProfile). c.spans) same ∙ of_them.spans) in
          absurd (omega (arith, spans))

  table_with_other_names : (counts : GraphProfile) → length counts.names ≡ 2 → length (names_of job) ≡ 3 → ¬ RanProfile (λ of. of ≡ job) (times 0) Done [] (Some (conclusion.Profile counts))
  table_with_other_names counts two three is = by_case (names_of is.ran.job) (ap names_of is.ran.is) is.counted
    where
      by_case : (of : List (List ℕ)) → of ≡ names_of job → ¬ Counted of Done [] (Some (conclusion.Profile counts))
      by_case of its_names (inl (same, none)) = absurd (cc)
      by_case of its_names (inr (other, only, of_them)) =
          let same : counts ≡ other = cc in
          let lengths : length counts.names ≡ length other.names = ap (λ (c : GraphProfile). length c.names) same in
          absurd (omega (arith, two, three, lengths, ap length of_them.names_are, ap length its_names))

-- ---- a call for a profile

stopped_before_its_profile : ProfileEnds held u 77 once (NoText u) [] None
stopped_before_its_profile = inl (record { why = stop.NoText u; stops = inl (refl, refl); reported = refl; none = (refl, refl) })

never_done_before : (why : Stop) → ¬ (Done ≡ status_of why)
never_done_before (stop.BadGraph error) same = absurd (cc)
never_done_before (stop.NoSource spot) same = absurd (cc)
never_done_before (stop.NoText name) same = absurd (cc)
never_done_before (stop.LongText name) same = absurd (cc)
never_done_before (stop.ReadFault name) same = absurd (cc)
never_done_before (stop.BadJournal line) same = absurd (cc)
never_done_before stop.NoMemory same = absurd (cc)

fine_called_missing : ¬ IsAfterRun reason.Fine (NoText u)
fine_called_missing (inl same) = absurd (cc)
fine_called_missing (inr (inl (fine, same))) = absurd (cc)
fine_called_missing (inr (inr same)) = absurd (cc)

table_beside_a_stop : (counts : GraphProfile) → ¬ ProfileEnds held u 77 once (NoText u) [] (Some (conclusion.Profile counts))
table_beside_a_stop counts (inl stopped) = let none : Some (conclusion.Profile counts) ≡ None = stopped.none.1 in absurd (cc)
table_beside_a_stop counts (inr ended) = fine_called_missing ended.ran.after

round_beside_a_stop : (run : TextRun) → ¬ ProfileEnds held u 77 once (NoText u) (run ∷ []) None
round_beside_a_stop run (inl stopped) = let none : run ∷ [] ≡ [] = stopped.none.0 in absurd (cc)
round_beside_a_stop run (inr ended) = missing_and_uncounted (names_of ended.ran.job) (run ∷ []) ended.counted

profile_as_the_file_asks : (job : TextJob) (counts : GraphProfile) → IsRequestedJob held g 77 job → IsProfileOf (names_of job) [] counts → ProfileEnds held g 77 (times 0) Done [] (Some (conclusion.Profile counts))
profile_as_the_file_asks job counts asked is =
    let ran = ran_none job in
    inr (record { ran = record { job = job; is = asked; first = ran.first; all = ran.all; after = ran.after }; counted = inr (counts, refl, is); none_asked = λ some none. ran.all (λ (memory : Done ≡ NoMemory). absurd (cc)) })

profile_of_another_limit : (run : TextRun) (concluded : Option Conclusion) → limit_of (job_of run) ≡ 76 → ¬ ProfileEnds held g 77 once Done (run ∷ []) concluded
profile_of_another_limit run concluded limit (inl stopped) = let none : run ∷ [] ≡ [] = stopped.none.0 in absurd (cc)
profile_of_another_limit run concluded limit (inr ended) = absurd (omega (arith, limit, ap limit_of ended.ran.first.rounds.first, starts ended.ran.job ended.ran.is))
  where
    starts : (job : TextJob) → IsRequestedJob held g 77 job → limit_of job ≡ 77
    starts (Graph work) is = is.starts
    starts (Parts work) is = absurd is
    starts (Pipe work) is = absurd is

module _ (arguments : List (List ℕ)) (asks : asked_by arguments ≡ Some (profile_asked g 77 4 once)) where
  call_of_a_profile : (status : Status) (runs : List TextRun) (concluded : Option Conclusion) → ProfileEnds held g 77 once status runs concluded → CallEnds held arguments status runs concluded
  call_of_a_profile status runs concluded ends = inl (subst (λ asked. AskedEnds held asked status runs concluded) (sym asks) ends)

  verdict_on_a_profile : (runs : List TextRun) → ¬ CallEnds held arguments Done runs (Some (conclusion.Verdict Finished))
  verdict_on_a_profile runs (inl ends) = by_end (subst (λ asked. AskedEnds held asked Done runs (Some (conclusion.Verdict Finished))) asks ends)
    where
      by_end : ¬ ProfileEnds held g 77 once Done runs (Some (conclusion.Verdict Finished))
      by_end (inl stopped) = let none : Some (conclusion.Verdict Finished) ≡ None = stopped.none.1 in absurd (cc)
      by_end (inr ended) = verdict_for_a_table (names_of ended.ran.job) runs ended.counted
  verdict_on_a_profile runs (inr (memory, none, nothing)) = absurd (cc)

  runs_without_a_table : (runs : List TextRun) → ¬ CallEnds held arguments Done runs None
  runs_without_a_table runs (inl ends) = by_end (subst (λ asked. AskedEnds held asked Done runs None) asks ends)
    where
      by_end : ¬ ProfileEnds held g 77 once Done runs None
      by_end (inl stopped) = never_done_before stopped.why stopped.reported
      by_end (inr ended) = done_and_uncounted (names_of ended.ran.job) runs ended.counted
  runs_without_a_table runs (inr (memory, none, nothing)) = absurd (cc)

-- Rounds of a graph without conditions report what one thread does, and are done exactly where that runs through.
use Rattle.std.proofs.Common.{append-nil, ◌≡◌, ◌≢◌, ◌⊎◌, inl, inr, ℕ, ◌≤◌, Bool, false, List, [], ◌∷◌, ◌++◌, length, map, Option, Some, None, refl, sym, ap, ◌∙◌, subst}
use Rattle.std.specs.Prelude.{All, IsSomeAnd, slice_index_or}
use Rattle.std.proofs.lemmas.Option.{same_Some}
use Rattle.std.proofs.lemmas.List.Elements.{All-nil, All-cons}
use Rattle.outside_io.specs.Sink.{Took}
use Rattle.call_status.specs.declared.status.Status.{Status}
use Rattle.call_status.specs.declared.status.Status.TheVariants.{Done, ReadFault, WriteFault, NoMemory}
use Rattle.call_status.specs.declared.stop.Stop.{Stop}
use Rattle.call_status.specs.declared.stop.Stop.TheVariants as stop
use Rattle.call_status.specs.Statuses.{status_of}
use Rattle.command_line.specs.Requests.{Asked, AskedRounds, asked_by, run, profile, judge, check, upgrade, generate, count}
use Rattle.graph_file.proofs.PlanLemmas.{IsPlan-read}
use Rattle.graph_plans.specs.PlanRows.{PlanRows}
use Rattle.graph_file.specs.PlanText.{PlanText}
use Rattle.nested_runs.specs.Reasons.{run_reason}
use Rattle.nested_runs.specs.declared.reasons.Reason.{Reason}
use Rattle.nested_runs.specs.declared.reasons.Reason.TheVariants.{Fine, Fault, Limit, Stuck}
use Rattle.run_frame.specs.NestedRule.{job_of, journal_of}
use Rattle.run_frame.specs.Legal.{IsKept}
use Rattle.text_ops.specs.Lines.{normal}
use Rattle.text_tasks.specs.declared.job.TextJob.{TextJob}
use Rattle.text_tasks.specs.declared.job.TextJob.TheVariants.{Graph, Parts, Pipe}
use Rattle.text_tasks.specs.JobMeaning.{names_of, text_job}
use Rattle.run_laws.specs.TextAnswers.{IsPlanned}
use Rattle.pipe_laws.specs.TextPipes.{PipesInOrder}
use Rattle.pipe_laws.proofs.TextInside.{pipes_in_order}
use Rattle.report_laws.proofs.TextPlain.{same_report}
use Rattle.flow_run.specs.declared.conclusion.Conclusion.{Conclusion}
use Rattle.flow_run.specs.declared.conclusion.Conclusion.TheVariants.{Profile}
use Rattle.flow_run.specs.declared.conclusion.GraphProfile.{GraphProfile}
use Rattle.flow_run.specs.Profiles.{IsProfileOf, graph_profile_text, plan_run}
use Rattle.call_status.specs.Reasons.{reason_line}
use Rattle.profile_table.specs.ProfileText.{profile_text}
use Rattle.profile_table.specs.Profiles.{Profile as Counted, profile_rows}
use Rattle.flow_run.specs.Requests.{SourceTexts, CanBeRun, IsHeld, IsRequestedJob, IsTextOf, TextsAre, file_limit, text_limit}
use Rattle.nested_runs.specs.Rounds.{AreAllRounds, AreFirstRounds}
use Rattle.flow_run.specs.Answers.{AskedEnds, CallEnds, GenerateEnds, IsAfterRun, ProfileEnds, RunEnds, TextRun, conclusion_text, output_of, runs_text}
use Rattle.flow_run.specs.RoundTexts.{last_reason, round_rule, rounds_text}
use Rattle.flow_run.specs.Completion.{IsAtHand}
use Rattle.flow_run.specs.Plainly.{AsksPlainly, AsksRounds, IsReportedPlainly, TookPlainly}
use Rattle.flow_run.specs.PlainProfiles.{plain_rows}
use Rattle.flow_run.specs.PlainRounds.{RoundsRunWell, plain_rounds}
use Rattle.flow_run.proofs.Completing.{completes, one_plan}
use Rattle.flow_run.proofs.PlainProfiles.{plain_rows_same}
use Rattle.flow_run.proofs.PlainRounds.{plain_rounds_fine, plain_rounds_well, plain_rounds_written}
use Rattle.flow_run.proofs.RoundLemmas.{rounds_planned, run_of_profile}

-- ---- a source that specifies its texts holds one job

one_held : (text : List ℕ → Option (List ℕ)) (name bytes other : List ℕ) (max : ℕ) → IsHeld (Some text) name max bytes → IsHeld (Some text) name max other → bytes ≡ other
one_held text name bytes other max one two = same_Some _ _ (sym one.0 ∙ two.0)

one_text : (text : List ℕ → Option (List ℕ)) (name made other : List ℕ) → IsTextOf (Some text) name made → IsTextOf (Some text) name other → made ≡ other
one_text text name made other one two = one.is ∙ ap normal (one_held text name one.bytes two.bytes text_limit one.read two.read) ∙ sym two.is

one_table : (text : List ℕ → Option (List ℕ)) (names made other : List (List ℕ)) → TextsAre (Some text) names made → TextsAre (Some text) names other → made ≡ other
one_table text [] [] [] one two = refl
one_table text [] [] (t ∷ ts) one two = absurd two
one_table text [] (t ∷ ts) other one two = absurd one
one_table text (name ∷ names) [] other one two = absurd one
one_table text (name ∷ names) (t ∷ ts) [] one two = absurd two
one_table text (name ∷ names) (t ∷ ts) (u ∷ us) one two =
    ap (λ x. x ∷ ts) (one_text text name t u one.0 two.0) ∙ ap (λ xs. u ∷ xs) (one_table text names ts us one.1 two.1)

one_job : (text : List ℕ → Option (List ℕ)) (file : List ℕ) (limit : ℕ) (job other : TextJob) → IsRequestedJob (Some text) file limit job → IsRequestedJob (Some text) file limit other → job ≡ other
one_job text file limit (Graph one) (Graph two) is also =
    let bytes : is.plan.bytes ≡ also.plan.bytes = one_held text file is.plan.bytes also.plan.bytes file_limit is.plan.read also.plan.read in
    let plan : one.plan ≡ two.plan = one_plan also.plan.bytes one.plan two.plan (subst (λ b. PlanText b one.plan) bytes is.plan.stands) also.plan.stands in
    let texts : one.texts ≡ two.texts = one_table text two.plan.texts one.texts two.texts (subst (λ (p : PlanRows). TextsAre (Some text) p.texts one.texts) plan is.texts) also.texts in
    ap (λ p. Graph (record one { plan = p })) plan
    ∙ ap (λ ts. Graph (record one { plan = two.plan; texts = ts })) texts
    ∙ ap (λ m. Graph (record two { «module» = m; input = one.input; limit = one.limit })) (is.top ∙ sym also.top)
    ∙ ap (λ i. Graph (record two { input = i; limit = one.limit })) (is.input ∙ sym also.input)
    ∙ ap (λ l. Graph (record two { limit = l })) (is.starts ∙ sym also.starts)
one_job text file limit (Graph one) (Parts two) is also = absurd also
one_job text file limit (Graph one) (Pipe two) is also = absurd also
one_job text file limit (Parts one) other is also = absurd is
one_job text file limit (Pipe one) other is also = absurd is

-- ---- what is at hand

all_held : (text : List ℕ → Option (List ℕ)) (names texts : List (List ℕ)) → TextsAre (Some text) names texts → All (λ name. IsSomeAnd (text name) (λ bytes. length bytes ≤ text_limit)) names
all_held text [] texts are = All-nil _
all_held text (name ∷ names) [] are = absurd are
all_held text (name ∷ names) (t ∷ ts) are =
    All-cons (λ n. IsSomeAnd (text n) (λ bytes. length bytes ≤ text_limit)) name names
    (subst (λ o. IsSomeAnd o (λ bytes. length bytes ≤ text_limit)) (sym are.0.read.0) are.0.read.1) (all_held text names ts are.1)

at_hand : (held : SourceTexts) (asked : Option Asked) (rounds : AskedRounds) (job : TextJob) → AsksPlainly held asked rounds job → IsAtHand held asked
at_hand held asked rounds (Graph work) asks =
    let requested : IsRequestedJob (Some asks.text) asks.file asks.limit (Graph work) = subst (λ h. IsRequestedJob h asks.file asks.limit (Graph work)) asks.specified asks.requested in
    let can : CanBeRun asks.text asks.file = record {
      plan = work.plan;
      graph = subst (λ o. IsSomeAnd o (λ bytes. (length bytes ≤ file_limit) × PlanText bytes work.plan)) (sym requested.plan.read.0) (requested.plan.read.1, requested.plan.stands);
      source = requested.plan.source;
      named = all_held asks.text work.plan.texts work.texts requested.texts;
    } in
    subst (λ h. IsAtHand h asked) (sym asks.specified)
    (elim asks.asks [
      | inl reports ↦ subst (λ a. IsAtHand (Some asks.text) a) (sym reports) can
      | inr profiles ↦ subst (λ a. IsAtHand (Some asks.text) a) (sym profiles) can
    ])
at_hand held asked rounds (Parts work) asks = absurd asks.requested
at_hand held asked rounds (Pipe work) asks = absurd asks.requested

-- ---- how the call ends

-- only a fine run is done
done_fine : (why : Reason) → IsAfterRun why Done → why ≡ Fine
done_fine Fine after = refl
done_fine (Fault path y) (inl told) = absurd (cc)
done_fine (Limit path most) (inl told) = absurd (cc)
done_fine (Stuck path) (inl told) = absurd (cc)
done_fine why (inr (inl (fine, told))) = absurd (cc)
done_fine why (inr (inr told)) = absurd (cc)

never_done : (why : Stop) → status_of why ≡ Done → ⊥
never_done (stop.BadGraph error) same = cc
never_done (stop.NoSource spot) same = cc
never_done (stop.NoText name) same = cc
never_done (stop.LongText name) same = cc
never_done (stop.ReadFault name) same = cc
never_done (stop.BadJournal line) same = cc
never_done stop.NoMemory same = cc

-- ---- the runs of a call

planned : (held : SourceTexts) (file : List ℕ) (limit : ℕ) (job : TextJob) → IsRequestedJob held file limit job → IsPlanned job
planned held file limit (Graph work) is = (IsPlan-read is.plan.bytes work.plan is.plan.stands, is.top)
planned held file limit (Parts work) is = absurd is
planned held file limit (Pipe work) is = absurd is

-- What holds of each kept run of a plan's top graph.
abbrev EachKept : (TextRun → Type 0) → Type 0
EachKept Holds = (run : TextRun) → IsPlanned (job_of run) → IsKept text_job run → Holds run

-- So it does of each round of a file, also where the source doesn't specify the texts that it holds.
each_round : (Holds : TextRun → Type 0) → EachKept Holds
    → (held : SourceTexts) (file : List ℕ) (limit : ℕ) (rounds : AskedRounds) (status : Status) (runs : List TextRun) → RunEnds held file limit rounds status runs → All Holds runs
each_round Holds law held file limit rounds status runs (inl stopped) = subst (All Holds) (sym stopped.none) (All-nil _)
each_round Holds law held file limit rounds status runs (inr ran) =
    let all = rounds_planned ran.job runs ran.first.rounds (planned held file limit ran.job ran.is) in
    λ k d below. law (slice_index_or runs k d) (all k d below) (ran.first.rounds.kept k d below)

-- that of a generated graph
each_generated : (Holds : TextRun → Type 0) → EachKept Holds → (layers : ℕ) (status : Status) (runs : List TextRun) → GenerateEnds layers status runs → All Holds runs
each_generated Holds law layers status runs (inl stopped) = subst (All Holds) (sym stopped.1) (All-nil _)
each_generated Holds law layers status runs (inr ran) =
    let all = rounds_planned ran.job runs ran.first.rounds ran.is.planned in
    λ k d below. law (slice_index_or runs k d) (all k d below) (ran.first.rounds.kept k d below)

-- that of what is asked for
each_asked : (Holds : TextRun → Type 0) → EachKept Holds
    → (held : SourceTexts) (asked : Option Asked) (status : Status) (runs : List TextRun) (concluded : Option Conclusion) → AskedEnds held asked status runs concluded → All Holds runs
each_asked Holds law held (Some (run file limit workers rounds journal)) status runs concluded (ends, none) = each_round Holds law held file limit rounds status runs ends
each_asked Holds law held (Some (profile file limit workers rounds)) status runs concluded ends =
    each_round Holds law held file limit rounds status runs (run_of_profile held file limit rounds status runs concluded ends)
each_asked Holds law held (Some (judge file name limit)) status runs concluded (ends, none) = subst (All Holds) (sym none) (All-nil _)
each_asked Holds law held (Some (check file)) status runs concluded (ends, none) = subst (All Holds) (sym none) (All-nil _)
each_asked Holds law held (Some (upgrade file)) status runs concluded (ends, none) = subst (All Holds) (sym none) (All-nil _)
each_asked Holds law held (Some (generate layers workers)) status runs concluded (ends, none) = each_generated Holds law layers status runs ends
each_asked Holds law held (Some (count word file grain workers)) status runs concluded (ends, none) = subst (All Holds) (sym none) (All-nil _)
each_asked Holds law held None status runs concluded (bad, none, nothing) = subst (All Holds) (sym none) (All-nil _)

-- and of each run that a call keeps
each_kept : (Holds : TextRun → Type 0) → EachKept Holds
    → (held : SourceTexts) (arguments : List (List ℕ)) (status : Status) (runs : List TextRun) (concluded : Option Conclusion) → CallEnds held arguments status runs concluded → All Holds runs
each_kept Holds law held arguments status runs concluded (inl ends) = each_asked Holds law held (asked_by arguments) status runs concluded ends
each_kept Holds law held arguments status runs concluded (inr (memory, none, nothing)) = subst (All Holds) (sym none) (All-nil _)

-- Each run that is kept reports what one thread does.
pub kept_plainly : (held : SourceTexts) (arguments : List (List ℕ)) (status : Status) (runs : List TextRun) (concluded : Option Conclusion) → CallEnds held arguments status runs concluded → All IsReportedPlainly runs
kept_plainly = each_kept IsReportedPlainly (λ run planned kept plain. same_report run plain planned kept)

-- In each of them pipelines keep the order of their tokens.
pub kept_in_order : (held : SourceTexts) (arguments : List (List ℕ)) (status : Status) (runs : List TextRun) (concluded : Option Conclusion) → CallEnds held arguments status runs concluded → All PipesInOrder runs
kept_in_order = each_kept PipesInOrder pipes_in_order

module _ (held : SourceTexts) (arguments : List (List ℕ)) (status : Status) (rounds : AskedRounds) (job : TextJob) (asks : AsksPlainly held (asked_by arguments) rounds job) where
  is_planned : IsPlanned job
  is_planned = planned held asks.file asks.limit job asks.requested

  -- the job whose rounds are run is this one
  asked_job : (of : TextJob) → IsRequestedJob held asks.file asks.limit of → of ≡ job
  asked_job of is =
      one_job asks.text asks.file asks.limit of job (subst (λ h. IsRequestedJob h asks.file asks.limit of) asks.specified is)
      (subst (λ h. IsRequestedJob h asks.file asks.limit job) asks.specified asks.requested)

  abbrev EndsAsAsked : List TextRun → Type 0
  EndsAsAsked runs = RunEnds held asks.file asks.limit rounds status runs ⊎ ((status ≡ NoMemory) × (runs ≡ []))

  -- The call runs the rounds that are asked for, of the file that is named, or meets want of memory before.
  ends_as_asked : (runs : List TextRun) (concluded : Option Conclusion) → CallEnds held arguments status runs concluded → EndsAsAsked runs
  ends_as_asked runs concluded (inl ends) = elim asks.asks [
    | inl reports ↦ inl (subst (λ asked. AskedEnds held asked status runs concluded) reports ends).0
    | inr profiles ↦ inl (run_of_profile held asks.file asks.limit rounds status runs concluded (subst (λ asked. AskedEnds held asked status runs concluded) profiles ends))
  ]
  ends_as_asked runs concluded (inr (memory, none, nothing)) = inr (memory, none)

  -- Where the values of each round by one thread run through, each run that is kept is fine.
  all_fine : (runs : List TextRun) → EndsAsAsked runs → RoundsRunWell rounds job → All (λ r. run_reason text_job r ≡ Fine) runs
  all_fine runs (inl (inl stopped)) well = subst (All (λ r. run_reason text_job r ≡ Fine)) (sym stopped.none) (All-nil _)
  all_fine runs (inl (inr ran)) well =
      plain_rounds_fine rounds job runs asks.plain is_planned (subst (λ (of : TextJob). AreFirstRounds text_job of (round_rule rounds) runs) (asked_job ran.job ran.is) ran.first) well
  all_fine runs (inr (memory, none)) well = subst (All (λ r. run_reason text_job r ≡ Fine)) (sym none) (All-nil _)

  -- So nothing but a failure or want of memory keeps the call from being done.
  pub plain_completes : (runs : List TextRun) (concluded : Option Conclusion) → CallEnds held arguments status runs concluded → RoundsRunWell rounds job → ((n : List ℕ) → status ≢ ReadFault n) → status ≢ WriteFault → (status ≡ Done) ⊎ (status ≡ NoMemory)
  plain_completes runs concluded ends well read write =
      completes status read write held arguments runs concluded ends (at_hand held (asked_by arguments) rounds job asks) (all_fine runs (ends_as_asked runs concluded ends) well)

  -- a call that is done has run all rounds, and the last is fine
  done_rounds : (runs : List TextRun) → EndsAsAsked runs → status ≡ Done → AreAllRounds text_job job (round_rule rounds) runs × (last_reason runs ≡ Fine)
  done_rounds runs (inl (inl stopped)) done = absurd (never_done stopped.why (sym stopped.reported ∙ done))
  done_rounds runs (inl (inr ran)) done =
      let memory : status ≢ NoMemory = λ no. let never : NoMemory ≡ Done = sym no ∙ done in absurd (cc) in (
        subst (λ (of : TextJob). AreAllRounds text_job of (round_rule rounds) runs) (asked_job ran.job ran.is) (ran.all memory),
        done_fine (last_reason runs) (subst (IsAfterRun (last_reason runs)) done ran.after),
      )
  done_rounds runs (inr (memory, none)) done = absurd (let never : NoMemory ≡ Done = sym memory ∙ done in cc)

  -- Where it is done, the values of each round by one thread run through,
  pub plain_done : (runs : List TextRun) (concluded : Option Conclusion) → CallEnds held arguments status runs concluded → status ≡ Done → RoundsRunWell rounds job
  plain_done runs concluded ends done =
      let all = done_rounds runs (ends_as_asked runs concluded ends) done in
      plain_rounds_well rounds job runs asks.plain is_planned all.0 all.1

  -- nothing is concluded of rounds whose reports are asked for
  no_conclusion : asked_by arguments ≡ Some (run asks.file asks.limit asks.workers rounds false) → (runs : List TextRun) (concluded : Option Conclusion) → CallEnds held arguments status runs concluded → concluded ≡ None
  no_conclusion reports runs concluded (inl ends) = (subst (λ asked. AskedEnds held asked status runs concluded) reports ends).1
  no_conclusion reports runs concluded (inr (memory, none, nothing)) = nothing

  -- the profile of rounds that are asked for is concluded, where the call is done
  abbrev IsProfiled : List TextRun → Option Conclusion → Type 0
  IsProfiled runs concluded = (counts : GraphProfile) × (concluded ≡ Some (Profile counts)) × IsProfileOf (names_of job) runs counts

  profiled : asked_by arguments ≡ Some (profile asks.file asks.limit asks.workers rounds) → (runs : List TextRun) (concluded : Option Conclusion) → CallEnds held arguments status runs concluded → status ≡ Done → IsProfiled runs concluded
  profiled profiles runs concluded (inl ends) done = by_end (subst (λ asked. AskedEnds held asked status runs concluded) profiles ends)
    where
      by_end : ProfileEnds held asks.file asks.limit rounds status runs concluded → IsProfiled runs concluded
      by_end (inl stopped) = absurd (never_done stopped.why (sym stopped.reported ∙ done))
      by_end (inr ended) = elim ended.counted [
        | inl (memory, none) ↦ absurd (let never : NoMemory ≡ Done = sym memory ∙ done in cc)
        | inr (counts, is, of_them) ↦ (counts, is, subst (λ (of : TextJob). IsProfileOf (names_of of) runs counts) (asked_job ended.ran.job ended.ran.is) of_them)
      ]
  profiled profiles runs concluded (inr (memory, none, nothing)) done = absurd (let never : NoMemory ≡ Done = sym memory ∙ done in cc)

  -- the text of a profile of fine rounds
  profile_same : (runs : List TextRun) (counts : GraphProfile) → IsProfileOf (names_of job) runs counts → AreAllRounds text_job job (round_rule rounds) runs × (last_reason runs ≡ Fine)
      → graph_profile_text counts ≡ profile_text (plain_rows rounds job) (names_of job) counts.spans
  profile_same runs counts is all =
      ap (λ line. profile_text counts.table.rows counts.names counts.spans ++ line) (is.last_line ∙ ap (reason_line (plan_run runs)) all.1)
      ∙ append-nil _
      ∙ ap (λ (table : Counted). profile_text table.rows counts.names counts.spans) is.table
      ∙ ap (λ names. profile_text (profile_rows (length (names_of job)) (map journal_of runs)) names counts.spans) is.names_are
      ∙ ap (λ rows. profile_text rows (names_of job) counts.spans) (plain_rows_same rounds job runs asks.plain is_planned all.0 all.1)

  -- and what is written is what one thread works out.
  pub plain_written : (runs : List TextRun) (concluded : Option Conclusion) → CallEnds held arguments status runs concluded → status ≡ Done
      → (before after : Option (List ℕ)) → Took before after (output_of arguments runs concluded) → TookPlainly (asked_by arguments) job before after
  plain_written runs concluded ends done before after took = by_request asks.asks
    where
      all : AreAllRounds text_job job (round_rule rounds) runs × (last_reason runs ≡ Fine)
      all = done_rounds runs (ends_as_asked runs concluded ends) done

      by_request : AsksRounds (asked_by arguments) asks.file asks.limit asks.workers rounds → TookPlainly (asked_by arguments) job before after
      by_request (inl reports) =
          let same : output_of arguments runs concluded ≡ plain_rounds rounds job =
          ap (λ asked. runs_text asked runs ++ conclusion_text concluded) reports
          ∙ ap (λ c. rounds_text rounds false runs ++ conclusion_text c) (no_conclusion reports runs concluded ends)
          ∙ append-nil _
          ∙ plain_rounds_written rounds job runs asks.plain is_planned all.0 all.1 in
          subst (λ asked. TookPlainly asked job before after) (sym reports) (subst (Took before after) same took)
      by_request (inr profiles) =
          let is : IsProfiled runs concluded = profiled profiles runs concluded ends done in
          let same : output_of arguments runs concluded ≡ profile_text (plain_rows rounds job) (names_of job) is.0.spans =
          ap (λ asked. runs_text asked runs ++ conclusion_text concluded) profiles
          ∙ ap conclusion_text is.1
          ∙ profile_same runs is.0 is.2 all in
          subst (λ asked. TookPlainly asked job before after) (sym profiles) (is.0.spans, subst (Took before after) same took)

-- What is at hand and meets no failure is done.
use Rattle.std.proofs.Common.{◌≡◌, ◌≢◌, ◌⊎◌, inl, inr, ℕ, ◌≤◌, List, [], ◌∷◌, ◌++◌, length, Option, Some, None, Ok, Err, refl, sym, ap, ◌∙◌, subst, arith}
use Rattle.std.specs.Prelude.{All, IsSomeAnd}
use Rattle.std.proofs.lemmas.Option.{none-some}
use Rattle.std.proofs.lemmas.List.Elements.{All-head, All-tail}
use Rattle.graph_drafts.specs.declared.refusals.GraphError.{GraphError}
use Rattle.graph_plans.specs.declared.spots.Spot.{Spot}
use Rattle.graph_plans.specs.declared.spots.Spot.TheVariants as spot
use Rattle.graph_plans.specs.PlanRows.{PlanRows}
use Rattle.graph_file.specs.PlanText.{PlanText, IsRefused}
use Rattle.graph_plans.specs.Sources.{NoSourceAnswer}
use Rattle.call_status.specs.declared.status.Status.{Status}
use Rattle.call_status.specs.declared.status.Status.TheVariants.{Done, ReadFault, WriteFault, NoMemory}
use Rattle.call_status.specs.declared.stop.Stop.{Stop}
use Rattle.call_status.specs.declared.stop.Stop.TheVariants as stop
use Rattle.flow_run.specs.Requests.{SourceTexts, IsHeld, HasStart, StopsAtName, StopsAtPlan, StopsAtBytes, StopsAtText, StopsBefore, CanBeRun, file_limit, text_limit}
use Rattle.command_line.specs.Requests.{Asked, AskedRounds, asked_by, run, profile, judge, check, upgrade, generate, count}
use Rattle.nested_runs.specs.Reasons.{run_reason}
use Rattle.nested_runs.specs.declared.reasons.Reason.{Reason}
use Rattle.nested_runs.specs.declared.reasons.Reason.TheVariants.{Fine}
use Rattle.text_tasks.specs.JobMeaning.{text_job}
use Rattle.call_status.specs.Statuses.{status_of}
use Rattle.call_status.specs.Statuses.{status_after}
use Rattle.flow_run.specs.declared.conclusion.Conclusion.{Conclusion}
use Rattle.flow_run.specs.Answers.{AskedEnds, TextRun, GenerateEnds, IsAfterRun, RunEnds, CallEnds}
use Rattle.flow_run.specs.Completion.{IsAtHand}
use Rattle.flow_run.specs.RoundTexts.{last_reason}
use Rattle.flow_run.proofs.RoundLemmas.{last_fine, run_of_profile}
use Rattle.flow_run.specs.PlanFiles.{IsAfterConclusion, StopsBeforePlan, HoldsPlan}
use Rattle.flow_run.specs.Checks.{CheckEnds}
use Rattle.flow_run.specs.Counted.{CountEnds, HoldsText}
use Rattle.flow_run.specs.Upgrades.{UpgradeEnds}
use Rattle.journal_rules.specs.declared.entry.Entry.{Entry}
use Rattle.task_graph.specs.NetRows.{NetRows}
use Rattle.legal_run.specs.declared.verdict.Break.{Break}
use Rattle.legal_run.specs.declared.verdict.Verdict.{Verdict}
use Rattle.legal_run.specs.declared.verdict.Verdict.TheVariants.{Complete as Finished, Legal, Breaks}
use Rattle.legal_run.specs.Verdict.{IsVerdict}
use Rattle.journal_text.specs.JournalText.{IsJournalText}
use Rattle.journal_text.proofs.TextLemmas.{one_journal}
use Rattle.flow_run.specs.Judgements.{IsJudged, IsAfterVerdict, StopsAtJournalBytes, StopsAtJournal, StopsBeforeVerdict, JudgeEnds, CanBeJudged, journal_limit}

-- Bytes stand for one plan at most.
pub one_plan : (bytes : List ℕ) (plan other : PlanRows) → PlanText bytes plan → PlanText bytes other → plan ≡ other
one_plan bytes plan other one two = let both : Ok plan ≡ Ok other = sym one ∙ two in cc

-- Bytes that stand for a plan aren't refused.
not_refused : (bytes : List ℕ) (plan : PlanRows) (error : GraphError) → PlanText bytes plan → IsRefused bytes error → ⊥
not_refused bytes plan error stands refused = let both : Ok plan ≡ Err error = sym stands ∙ refused in absurd (cc)

-- A plan that has a start has no graph without a source.
has_source : (plan : PlanRows) (at : Spot) → HasStart plan → NoSourceAnswer plan (Some at) → ⊥
has_source plan spot.File start none = start.top none
has_source plan (spot.Sem s) start none = none
has_source plan (spot.Task t) start none = none
has_source plan (spot.Module m) start none = start.modules m plan.top none.0 (none.2 plan.top)
has_source plan (spot.ModuleSem m s) start none = none
has_source plan (spot.ModuleTask m t) start none = none

-- What is held under a name where the source specifies it.
held_some : (text : List ℕ → Option (List ℕ)) (name bytes : List ℕ) (max : ℕ) (P : List ℕ → Type 0) → IsHeld (Some text) name max bytes → IsSomeAnd (text name) P → P bytes
held_some text name bytes max P read meets = subst (λ (o : Option (List ℕ)). IsSomeAnd o P) read.0 meets

-- Nothing but a failure or want of memory stops the read of a text that is held within the limit.
never_stops : (text : List ℕ → Option (List ℕ)) (name : List ℕ) (max : ℕ) (why : Stop) → IsSomeAnd (text name) (λ bytes. length bytes ≤ max) → StopsAtName (Some text) name max why → ((n : List ℕ) → why ≢ stop.ReadFault n) → why ≡ stop.NoMemory
never_stops text name max why has stops fine = by_text (text name) why has stops fine
  where
    by_text : (o : Option (List ℕ)) (w : Stop) → IsSomeAnd o (λ bytes. length bytes ≤ max) → StopsAtName (Some (λ _. o)) name max w → ((n : List ℕ) → w ≢ stop.ReadFault n) → w ≡ stop.NoMemory
    by_text None w never stops fine = absurd never
    by_text (Some bytes) (stop.BadGraph error) few stops fine = absurd stops
    by_text (Some bytes) (stop.NoSource at) few stops fine = absurd stops
    by_text (Some bytes) (stop.NoText n) few stops fine = absurd (none-some bytes (sym stops.1))
    by_text (Some bytes) (stop.LongText n) few stops fine = absurd (omega (arith, few, stops.1))
    by_text (Some bytes) (stop.ReadFault n) few stops fine = absurd (fine n refl)
    by_text (Some bytes) (stop.BadJournal line) few stops fine = absurd stops
    by_text (Some bytes) stop.NoMemory few stops fine = refl

-- What holds of each item holds of one in the middle.
all_at : {X : Type 0} (P : X → Type 0) (before after : List X) (x : X) → All P (before ++ x ∷ after) → P x
all_at P [] after x all = All-head P x after all
all_at P (y ∷ before) after x all = all_at P before after x (All-tail P y (before ++ x ∷ after) all)

module _ (text : List ℕ → Option (List ℕ)) (file : List ℕ) (plan : PlanRows) where
  -- What stops the read of the texts is no more.
  never_at_texts : (why : Stop) → All (λ name. IsSomeAnd (text name) (λ bytes. length bytes ≤ text_limit)) plan.texts → StopsAtText (Some text) plan.texts why → ((n : List ℕ) → why ≢ stop.ReadFault n) → why ≡ stop.NoMemory
  never_at_texts why named at fine =
      never_stops text at.name text_limit why (all_at (λ name. IsSomeAnd (text name) (λ bytes. length bytes ≤ text_limit)) at.before at.after at.name (subst (All (λ name. IsSomeAnd (text name) (λ bytes. length bytes ≤ text_limit))) at.parts named)) at.stops fine

  -- Bytes that stand for the plan are refused for nothing else.
  never_at_bytes : (bytes : List ℕ) (why : Stop) → PlanText bytes plan → HasStart plan → StopsAtBytes bytes why → why ≡ stop.NoMemory
  never_at_bytes bytes (stop.BadGraph error) stands start stops = absurd (not_refused bytes plan error stands stops)
  never_at_bytes bytes (stop.NoSource at) stands start stops = absurd (has_source plan at start (subst (λ p. NoSourceAnswer p (Some at)) (one_plan bytes stops.0 plan stops.1 stands) stops.2))
  never_at_bytes bytes (stop.NoText n) stands start stops = absurd stops
  never_at_bytes bytes (stop.LongText n) stands start stops = absurd stops
  never_at_bytes bytes (stop.ReadFault n) stands start stops = absurd stops
  never_at_bytes bytes (stop.BadJournal line) stands start stops = absurd stops
  never_at_bytes bytes stop.NoMemory stands start stops = refl

  -- Nor where the plan alone is needed.
  never_at_plan : (bytes : List ℕ) (why : Stop) → PlanText bytes plan → StopsAtPlan bytes why → why ≡ stop.NoMemory
  never_at_plan bytes (stop.BadGraph error) stands stops = absurd (not_refused bytes plan error stands stops)
  never_at_plan bytes (stop.NoSource at) stands stops = absurd stops
  never_at_plan bytes (stop.NoText n) stands stops = absurd stops
  never_at_plan bytes (stop.LongText n) stands stops = absurd stops
  never_at_plan bytes (stop.ReadFault n) stands stops = absurd stops
  never_at_plan bytes (stop.BadJournal line) stands stops = absurd stops
  never_at_plan bytes stop.NoMemory stands stops = refl

  weaker : (max : ℕ) (P : List ℕ → Type 0) (o : Option (List ℕ)) → IsSomeAnd o (λ bytes. (length bytes ≤ max) × P bytes) → IsSomeAnd o (λ bytes. length bytes ≤ max)
  weaker max P None never = never
  weaker max P (Some bytes) both = both.0

  -- Nor does anything else stop a judgement of a journal's text.
  never_at_journal : (name : List ℕ) (journal : List Entry) (why : Stop) → IsSomeAnd (text name) (λ bytes. (length bytes ≤ journal_limit) × IsJournalText journal bytes)
      → StopsAtJournal (Some text) name why → ((n : List ℕ) → why ≢ stop.ReadFault n) → why ≡ stop.NoMemory
  never_at_journal name journal why trace (inl at) fine = never_stops text name journal_limit why (weaker journal_limit (IsJournalText journal) (text name) trace) at fine
  never_at_journal name journal why trace (inr at) fine =
      by_stop why (held_some text name at.bytes journal_limit (λ bytes. (length bytes ≤ journal_limit) × IsJournalText journal bytes) at.read trace).1 at.stops
    where
      by_stop : (w : Stop) → IsJournalText journal at.bytes → StopsAtJournalBytes at.bytes w → w ≡ stop.NoMemory
      by_stop (stop.BadGraph error) stands stops = absurd stops
      by_stop (stop.NoSource at) stands stops = absurd stops
      by_stop (stop.NoText n) stands stops = absurd stops
      by_stop (stop.LongText n) stands stops = absurd stops
      by_stop (stop.ReadFault n) stands stops = absurd stops
      by_stop (stop.BadJournal line) stands stops = absurd (stops.no_text journal stands)
      by_stop stop.NoMemory stands stops = refl

  never_before_verdict : (name : List ℕ) (journal : List Entry) (why : Stop) → IsSomeAnd (text file) (λ bytes. (length bytes ≤ file_limit) × PlanText bytes plan) → HasStart plan
      → IsSomeAnd (text name) (λ bytes. (length bytes ≤ journal_limit) × IsJournalText journal bytes) → StopsBeforeVerdict (Some text) file name why → ((n : List ℕ) → why ≢ stop.ReadFault n) → why ≡ stop.NoMemory
  never_before_verdict name journal why graph start trace (inl at) fine = never_stops text file file_limit why (weaker file_limit (λ bytes. PlanText bytes plan) (text file) graph) at fine
  never_before_verdict name journal why graph start trace (inr (inl at)) fine =
      never_at_bytes at.bytes why (held_some text file at.bytes file_limit (λ bytes. (length bytes ≤ file_limit) × PlanText bytes plan) at.read graph).1 start at.stops
  never_before_verdict name journal why graph start trace (inr (inr at)) fine = never_at_journal name journal why trace at.stops fine

  -- The verdict on the journal that is held is no break.
  judged_well : (name : List ℕ) (journal : List Entry) (limit : ℕ) (verdict : Verdict) → IsSomeAnd (text file) (λ bytes. (length bytes ≤ file_limit) × PlanText bytes plan)
      → IsSomeAnd (text name) (λ bytes. (length bytes ≤ journal_limit) × IsJournalText journal bytes)
      → IsJudged (Some text) file name limit verdict → IsVerdict plan.top.net limit journal verdict
  judged_well name journal limit verdict graph trace judged =
      let stands = (held_some text file judged.graph.bytes file_limit (λ bytes. (length bytes ≤ file_limit) × PlanText bytes plan) judged.graph.read graph).1 in
      let written = (held_some text name judged.text.bytes journal_limit (λ bytes. (length bytes ≤ journal_limit) × IsJournalText journal bytes) judged.text.read trace).1 in
      let same_plan = one_plan judged.graph.bytes judged.plan plan judged.graph.stands stands in
      let same_journal = one_journal judged.journal journal judged.text.bytes judged.text.stands written in
      subst (λ (p : PlanRows). IsVerdict p.top.net limit journal verdict) same_plan (subst (λ (j : List Entry). IsVerdict judged.plan.top.net limit j verdict) same_journal judged.is)

  never_before_plan : (why : Stop) → IsSomeAnd (text file) (λ bytes. (length bytes ≤ file_limit) × PlanText bytes plan) → StopsBeforePlan (Some text) file why → ((n : List ℕ) → why ≢ stop.ReadFault n) → why ≡ stop.NoMemory
  never_before_plan why graph (inl at) fine = never_stops text file file_limit why (weaker file_limit (λ bytes. PlanText bytes plan) (text file) graph) at fine
  never_before_plan why graph (inr at) fine =
      never_at_plan at.bytes why (held_some text file at.bytes file_limit (λ bytes. (length bytes ≤ file_limit) × PlanText bytes plan) at.read graph).1 at.stops

  -- So nothing but a failure or want of memory stops the call.
  never_before : (why : Stop) → IsSomeAnd (text file) (λ bytes. (length bytes ≤ file_limit) × PlanText bytes plan) → HasStart plan
      → All (λ name. IsSomeAnd (text name) (λ bytes. length bytes ≤ text_limit)) plan.texts → StopsBefore (Some text) file why → ((n : List ℕ) → why ≢ stop.ReadFault n) → why ≡ stop.NoMemory
  never_before why graph start named (inl at) fine = never_stops text file file_limit why (weaker file_limit (λ bytes. PlanText bytes plan) (text file) graph) at fine
  never_before why graph start named (inr (inl at)) fine =
      never_at_bytes at.bytes why (held_some text file at.bytes file_limit (λ bytes. (length bytes ≤ file_limit) × PlanText bytes plan) at.read graph).1 start at.stops
  never_before why graph start named (inr (inr at)) fine =
      let stands = (held_some text file at.has.bytes file_limit (λ bytes. (length bytes ≤ file_limit) × PlanText bytes plan) at.has.read graph).1 in
      never_at_texts why named (subst (λ p. StopsAtText (Some text) p.texts why) (one_plan at.has.bytes at.plan plan at.has.stands stands) at.stops) fine

-- a run that ended fine, and whose output didn't fail, is done
after_run : (why : Reason) (status : Status) → why ≡ Fine → IsAfterRun why status → status ≢ WriteFault → (status ≡ Done) ⊎ (status ≡ NoMemory)
after_run why status fine (inl told) written = inl (told ∙ ap status_after fine)
after_run why status fine (inr (inl (also, failed))) written = absurd (written failed)
after_run why status fine (inr (inr memory)) written = inr memory

module _ (status : Status) (read : (n : List ℕ) → status ≢ ReadFault n) (write : status ≢ WriteFault) where
  -- A call that stopped stopped at no read.
  not_at_read : (why : Stop) → status ≡ status_of why → (n : List ℕ) → why ≢ stop.ReadFault n
  not_at_read why reported n is = read n (reported ∙ ap status_of is)

  run_completes : (held : SourceTexts) (file : List ℕ) (limit : ℕ) (rounds : AskedRounds) (runs : List TextRun) → IsSomeAnd held (λ text. CanBeRun text file)
      → All (λ run. run_reason text_job run ≡ Fine) runs → RunEnds held file limit rounds status runs → (status ≡ Done) ⊎ (status ≡ NoMemory)
  run_completes None file limit rounds runs can fine ends = absurd can
  run_completes (Some text) file limit rounds runs can fine (inl stopped) =
      inr (stopped.reported ∙ ap status_of (never_before text file can.plan stopped.why can.graph can.source can.named stopped.stops (not_at_read stopped.why stopped.reported)))
  run_completes (Some text) file limit rounds runs can fine (inr ran) = after_run (last_reason runs) status (last_fine runs fine) ran.after write

  -- a verdict that is no break, and whose line didn't fail, is done
  after_verdict : (net : NetRows) (limit : ℕ) (journal : List Entry) (verdict : Verdict) → IsVerdict net limit journal verdict → ((place : ℕ) (why : Break) → ¬ IsVerdict net limit journal (Breaks place why))
      → IsAfterVerdict verdict status → (status ≡ Done) ⊎ (status ≡ NoMemory)
  after_verdict net limit journal Finished is never (inl told) = inl told
  after_verdict net limit journal Legal is never (inl told) = inl told
  after_verdict net limit journal (Breaks place why) is never (inl told) = absurd (never place why is)
  after_verdict net limit journal verdict is never (inr (inl (also, failed))) = absurd (write failed)
  after_verdict net limit journal verdict is never (inr (inr memory)) = inr memory

  judge_completes : (held : SourceTexts) (file name : List ℕ) (limit : ℕ) (concluded : Option Conclusion) → IsSomeAnd held (λ text. CanBeJudged text file name limit)
      → JudgeEnds held file name limit status concluded → (status ≡ Done) ⊎ (status ≡ NoMemory)
  judge_completes None file name limit concluded can ends = absurd can
  judge_completes (Some text) file name limit concluded can (inl stopped) =
      inr (stopped.reported ∙ ap status_of (never_before_verdict text file can.plan name can.journal stopped.why can.graph can.source can.trace stopped.stops (not_at_read stopped.why stopped.reported)))
  judge_completes (Some text) file name limit concluded can (inr ended) =
      after_verdict can.plan.top.net limit can.journal ended.verdict (judged_well text file can.plan name can.journal limit ended.verdict can.graph can.trace ended.judged) can.stands ended.after

  -- what is written of a conclusion and doesn't fail is done
  after_conclusion : IsAfterConclusion status → (status ≡ Done) ⊎ (status ≡ NoMemory)
  after_conclusion (inl told) = inl told
  after_conclusion (inr (inl failed)) = absurd (write failed)
  after_conclusion (inr (inr memory)) = inr memory

  check_completes : (held : SourceTexts) (file : List ℕ) (concluded : Option Conclusion) → IsSomeAnd held (λ text. HoldsPlan text file)
      → CheckEnds held file status concluded → (status ≡ Done) ⊎ (status ≡ NoMemory)
  check_completes None file concluded can ends = absurd can
  check_completes (Some text) file concluded can (inl stopped) =
      inr (stopped.reported ∙ ap status_of (never_before_plan text file can.plan stopped.why can.graph stopped.stops (not_at_read stopped.why stopped.reported)))
  check_completes (Some text) file concluded can (inr ended) = after_conclusion ended.after

  upgrade_completes : (held : SourceTexts) (file : List ℕ) (concluded : Option Conclusion) → IsSomeAnd held (λ text. HoldsPlan text file)
      → UpgradeEnds held file status concluded → (status ≡ Done) ⊎ (status ≡ NoMemory)
  upgrade_completes None file concluded can ends = absurd can
  upgrade_completes (Some text) file concluded can (inl stopped) =
      inr (stopped.reported ∙ ap status_of (never_before_plan text file can.plan stopped.why can.graph stopped.stops (not_at_read stopped.why stopped.reported)))
  upgrade_completes (Some text) file concluded can (inr ended) = after_conclusion ended.after

  generate_completes : (layers : ℕ) (runs : List TextRun) → All (λ run. run_reason text_job run ≡ Fine) runs → GenerateEnds layers status runs → (status ≡ Done) ⊎ (status ≡ NoMemory)
  generate_completes layers runs fine (inl stopped) = inr stopped.0
  generate_completes layers runs fine (inr ran) = after_run (last_reason runs) status (last_fine runs fine) ran.after write

  count_completes : (held : SourceTexts) (word file : List ℕ) (concluded : Option Conclusion) → IsSomeAnd held (λ text. HoldsText text file)
      → CountEnds held word file status concluded → (status ≡ Done) ⊎ (status ≡ NoMemory)
  count_completes None word file concluded can ends = absurd can
  count_completes (Some text) word file concluded can (inl stopped) =
      inr (stopped.reported ∙ ap status_of (never_stops text file text_limit stopped.why can stopped.stops (not_at_read stopped.why stopped.reported)))
  count_completes (Some text) word file concluded can (inr ended) = after_conclusion ended.after

  asked_completes : (held : SourceTexts) (asked : Option Asked) (runs : List TextRun) (concluded : Option Conclusion) → AskedEnds held asked status runs concluded
      → IsAtHand held asked → All (λ run. run_reason text_job run ≡ Fine) runs → (status ≡ Done) ⊎ (status ≡ NoMemory)
  asked_completes held (Some (run file limit workers rounds journal)) runs concluded (ends, none) hand fine = run_completes held file limit rounds runs hand fine ends
  asked_completes held (Some (profile file limit workers rounds)) runs concluded ends hand fine = run_completes held file limit rounds runs hand fine (run_of_profile held file limit rounds status runs concluded ends)
  asked_completes held (Some (judge file name limit)) runs concluded (ends, none) hand fine = judge_completes held file name limit concluded hand ends
  asked_completes held (Some (check file)) runs concluded (ends, none) hand fine = check_completes held file concluded hand ends
  asked_completes held (Some (upgrade file)) runs concluded (ends, none) hand fine = upgrade_completes held file concluded hand ends
  asked_completes held (Some (generate layers workers)) runs concluded (ends, none) hand fine = generate_completes layers runs fine ends
  asked_completes held (Some (count word file grain workers)) runs concluded (ends, none) hand fine = count_completes held word file concluded hand ends
  asked_completes held None runs concluded (bad, none, nothing) hand fine = absurd hand

  -- What is at hand and meets no failure is done.
  pub completes : (held : SourceTexts) (arguments : List (List ℕ)) (runs : List TextRun) (concluded : Option Conclusion) → CallEnds held arguments status runs concluded
      → IsAtHand held (asked_by arguments) → All (λ run. run_reason text_job run ≡ Fine) runs → (status ≡ Done) ⊎ (status ≡ NoMemory)
  completes held arguments runs concluded (inl ends) hand fine = asked_completes held (asked_by arguments) runs concluded ends hand fine
  completes held arguments runs concluded (inr (memory, none, nothing)) hand fine = inr memory

-- What a call asks for and how it ends, computed on a graph file `g` of one byte that names the text `t`, of two. Names
-- are of one small byte here.
use Rattle.std.proofs.Common.{◌≡◌, ℕ, ◌<◌, List, [], ◌∷◌, length, ◌⊎◌, Option, Some, None, true, false, inl, inr, refl, arith, ap, sym, subst, ◌∙◌, Result, Ok, Err}
use Rattle.std.specs.Prelude.{if◌then◌else◌, bytes_eq}
use Rattle.outside_io.specs.Sink.{SinkState}
use Rattle.graph_drafts.specs.declared.refusals.GraphError.TheVariants.{NotJson, TooMany}
use Rattle.graph_drafts.specs.declared.refusals.GraphError.{GraphError}
use Rattle.graph_drafts.specs.declared.refusals.Kind.TheVariants.{Tasks}
use Rattle.text_ops.specs.Lines.{normal}
use Rattle.graph_plans.specs.declared.spots.Spot.TheVariants.{File}
use Rattle.graph_plans.specs.PlanRows.{PlanRows}
use Rattle.graph_file.specs.PlanText.{PlanText, IsRefused}
use Rattle.text_tasks.specs.GraphWork.{GraphWork}
use Rattle.call_status.specs.declared.status.Status.{Status}
use Rattle.call_status.specs.declared.status.Status.TheVariants.{Done, BadWords, NoText, WriteFault, TaskFault, Limit, Stuck, NoMemory}
use Rattle.call_status.specs.declared.stop.Stop.{Stop}
use Rattle.call_status.specs.declared.stop.Stop.TheVariants as stop
use Rattle.command_line.specs.Requests.{asked_by, once, run as run_of, judge as judge_of, check as check_of, upgrade as upgrade_of, count as count_of}
use Rattle.legal_run.specs.declared.verdict.Verdict.TheVariants.{Complete as Finished}
use Rattle.flow_run.specs.declared.conclusion.Conclusion.TheVariants as conclusion
use Rattle.flow_run.specs.declared.conclusion.GraphFindings.{GraphFindings}
use Rattle.journal_rules.specs.declared.entry.Why.TheVariants.{Long as TooLong, OverRelease}
use Rattle.nested_runs.specs.declared.reasons.Reason.TheVariants as reason
use Rattle.flow_run.specs.Requests.{SourceTexts, StopsAtName, IsTextOf, TextsAre, StopsAtText, HasStart, StopsAtBytes, HasPlan, IsRequested, file_limit, text_limit}
use Rattle.flow_run.specs.Answers.{AskedEnds, TextRun, IsAfterRun, RunEnds, CallEnds, Reported}
use Rattle.flow_run.specs.Checks.{CheckEnds}
use Rattle.flow_run.specs.Judgements.{JudgeEnds}
use Rattle.flow_run.specs.Upgrades.{UpgradeEnds}
use Rattle.call_status.specs.Statuses.{status_of}
use Rattle.flow_run.proofs.RoundLemmas.{one_round}

abbrev g : List ℕ
g = 0 ∷ []

abbrev t : List ℕ
t = 1 ∷ []

abbrev u : List ℕ
u = 2 ∷ []

-- what is held: a byte under `g`, two under `t`
abbrev texts : List ℕ → Option (List ℕ)
texts name = if bytes_eq name g then Some (1 ∷ []) else (if bytes_eq name t then Some (2 ∷ 3 ∷ []) else None)

abbrev held : SourceTexts
held = Some texts

-- A name stops the call where nothing is held under it, or more than may be read; the answer names it.
missing : StopsAtName held u 2 (stop.NoText u)
missing = (refl, refl)

missing_names_another : ¬ StopsAtName held u 2 (stop.NoText t)
missing_names_another is = absurd (cc)

held_is_not_missing : ¬ StopsAtName held t 2 (stop.NoText t)
held_is_not_missing is = absurd (cc)

longer : StopsAtName held t 1 (stop.LongText t)
longer = (refl, omega arith)

just_the_limit : ¬ StopsAtName held t 2 (stop.LongText t)
just_the_limit is = absurd (omega (arith, is.1))

longer_names_another : ¬ StopsAtName held t 1 (stop.LongText g)
longer_names_another is = absurd (cc)

missing_is_not_longer : ¬ StopsAtName held u 1 (stop.LongText u)
missing_is_not_longer is = is.1

read_fault : StopsAtName held t 2 (stop.ReadFault t)
read_fault = refl

read_fault_names_another : ¬ StopsAtName held t 2 (stop.ReadFault g)
read_fault_names_another is = absurd (cc)

no_bad_graph_at_a_name : ¬ StopsAtName held t 2 (stop.BadGraph NotJson)
no_bad_graph_at_a_name is = is

no_source_at_a_name : ¬ StopsAtName held t 2 (stop.NoSource File)
no_source_at_a_name is = is

-- The texts of a job are those of its names, in order, as they are held, and each line of them has an end.
own_text : IsTextOf held t (2 ∷ 3 ∷ 10 ∷ [])
own_text = record { bytes = 2 ∷ 3 ∷ []; read = (refl, omega arith); is = refl }

known_length : Option (List ℕ) → ℕ
known_length None = 0
known_length (Some xs) = length xs

-- without the end of its line
text_as_it_was_read : ¬ IsTextOf held t (2 ∷ 3 ∷ [])
text_as_it_was_read is =
    let bytes : Some (2 ∷ 3 ∷ []) ≡ Some is.bytes = is.read.0 in
    let same : 2 ∷ 3 ∷ [] ≡ is.bytes = cc in
    let lengths : 2 ≡ 3 = ap length (is.is ∙ ap normal (sym same)) in
    absurd (omega (arith, lengths))

text_of_another_name : ¬ IsTextOf held g (2 ∷ 3 ∷ 10 ∷ [])
text_of_another_name is =
    let bytes : Some (1 ∷ []) ≡ Some is.bytes = is.read.0 in
    let same : 1 ∷ [] ≡ is.bytes = cc in
    let lengths : 3 ≡ 2 = ap length (is.is ∙ ap normal (sym same)) in
    absurd (omega (arith, lengths))

one_text : TextsAre held (t ∷ []) ((2 ∷ 3 ∷ 10 ∷ []) ∷ [])
one_text = (own_text, tt)

two_texts : TextsAre held (t ∷ g ∷ []) ((2 ∷ 3 ∷ 10 ∷ []) ∷ (1 ∷ 10 ∷ []) ∷ [])
two_texts = (own_text, (record { bytes = 1 ∷ []; read = (refl, omega arith); is = refl }, tt))

in_another_order : ¬ TextsAre held (g ∷ t ∷ []) ((2 ∷ 3 ∷ 10 ∷ []) ∷ (1 ∷ 10 ∷ []) ∷ [])
in_another_order are = text_of_another_name are.0

text_left_out : ¬ TextsAre held (t ∷ []) []
text_left_out are = are

one_text_too_many : ¬ TextsAre held [] ((2 ∷ 3 ∷ 10 ∷ []) ∷ [])
one_text_too_many are = are

another_text : ¬ TextsAre held (t ∷ []) ((1 ∷ 10 ∷ []) ∷ [])
another_text are =
    let bytes : Some (2 ∷ 3 ∷ []) ≡ Some are.0.bytes = are.0.read.0 in
    let same : 2 ∷ 3 ∷ [] ≡ are.0.bytes = cc in
    let lengths : 2 ≡ 3 = ap length (are.0.is ∙ ap normal (sym same)) in
    absurd (omega (arith, lengths))

-- Of several names the first that can't be read stops the call.
second_missing : StopsAtText held (t ∷ u ∷ (3 ∷ []) ∷ []) (stop.NoText u)
second_missing = record { before = t ∷ []; name = u; after = (3 ∷ []) ∷ []; texts = (2 ∷ 3 ∷ 10 ∷ []) ∷ []; parts = refl; read = one_text; stops = missing }

-- Bytes stop the call where they stand for no plan, for the first reason, or for one without a task to begin with.
module _ (bytes : List ℕ) (plan : PlanRows) (stands : PlanText bytes plan) where
  not_bad : ¬ StopsAtBytes bytes (stop.BadGraph NotJson)
  not_bad is = let both : Ok plan ≡ Err NotJson = sym stands ∙ is in absurd (cc)

  no_text_at_bytes : ¬ StopsAtBytes bytes (stop.NoText t)
  no_text_at_bytes is = is

  no_long_text_at_bytes : ¬ StopsAtBytes bytes (stop.LongText t)
  no_long_text_at_bytes is = is

  no_read_fault_at_bytes : ¬ StopsAtBytes bytes (stop.ReadFault t)
  no_read_fault_at_bytes is = is

bad_bytes : (bytes : List ℕ) → IsRefused bytes NotJson → StopsAtBytes bytes (stop.BadGraph NotJson)
bad_bytes bytes refused = refused

abbrev no_json : Result PlanRows GraphError
no_json = Err NotJson

another_reason : (bytes : List ℕ) → IsRefused bytes NotJson → ¬ StopsAtBytes bytes (stop.BadGraph (TooMany Tasks))
another_reason bytes refused is = let both : no_json ≡ Err (TooMany Tasks) = sym refused ∙ is in absurd (cc)

-- The job that is asked for is of the file's plan over the texts held, of its top graph, with no input and the limit.
abbrev work : PlanRows → GraphWork
work plan = record { plan = plan; texts = (2 ∷ 3 ∷ 10 ∷ []) ∷ []; «module» = None; input = []; limit = 77 }

module _ (plan : PlanRows) (stands : PlanText (1 ∷ []) plan) (source : HasStart plan) (names_t : plan.texts ≡ t ∷ []) where
  has_plan : HasPlan held g plan
  has_plan = record { bytes = 1 ∷ []; read = (refl, omega arith); stands = stands; source = source }

  requested : IsRequested held g 77 (work plan)
  requested = record { plan = has_plan; texts = rw names_t one_text; top = refl; input = refl; starts = refl }

  other_limit : ¬ IsRequested held g 77 (record (work plan) { limit = 76 })
  other_limit is = absurd (omega (arith, is.starts))

  other_input : ¬ IsRequested held g 77 (record (work plan) { input = 1 ∷ [] })
  other_input is = let input = is.input in absurd (cc)

  a_module : ¬ IsRequested held g 77 (record (work plan) { «module» = Some 0 })
  a_module is = let top = is.top in absurd (cc)

  other_texts : ¬ IsRequested held g 77 (record (work plan) { texts = (1 ∷ 10 ∷ []) ∷ [] })
  other_texts is = absurd (another_text (subst (λ names. TextsAre held names ((1 ∷ 10 ∷ []) ∷ [])) names_t is.texts))

  file_of_another_name : ¬ ((bytes : List ℕ) → PlanText bytes plan → bytes ≡ 1 ∷ []) → ¬ HasPlan held u plan
  file_of_another_name only is = let none : None ≡ Some is.bytes = is.read.0 in absurd (cc)

limits : (file_limit ≡ 4194304) × (text_limit ≡ 16777215)
limits = (refl, refl)

-- After a run the status tells its reason, or that memory ran out, or of a run that ended fine that the output failed.
after_run : IsAfterRun reason.Fine Done × IsAfterRun reason.Fine WriteFault × IsAfterRun reason.Fine NoMemory
after_run = (inl refl, inr (inl (refl, refl)), inr (inr refl))

after_a_fault : IsAfterRun (reason.Fault (3 ∷ []) (TooLong 9)) (TaskFault (3 ∷ []) (TooLong 9)) × IsAfterRun (reason.Fault (3 ∷ []) (TooLong 9)) NoMemory
after_a_fault = (inl refl, inr (inr refl))

fault_called_done : ¬ IsAfterRun (reason.Fault (3 ∷ []) (TooLong 9)) Done
fault_called_done (inl same) = absurd (cc)
fault_called_done (inr (inl (fine, same))) = absurd (cc)
fault_called_done (inr (inr same)) = absurd (cc)

fault_of_another_task : ¬ IsAfterRun (reason.Fault (3 ∷ []) (TooLong 9)) (TaskFault (4 ∷ []) (TooLong 9))
fault_of_another_task (inl same) = absurd (cc)
fault_of_another_task (inr (inl (fine, same))) = absurd (cc)
fault_of_another_task (inr (inr same)) = absurd (cc)

limit_hidden_by_the_output : ¬ IsAfterRun (reason.Limit [] 9) WriteFault
limit_hidden_by_the_output (inl same) = absurd (cc)
limit_hidden_by_the_output (inr (inl (fine, same))) = absurd (cc)
limit_hidden_by_the_output (inr (inr same)) = absurd (cc)

-- A run that got stuck is told as that, of the task that waited first; a unit that came back too often is a fault.
after_stuck : IsAfterRun (reason.Stuck (3 ∷ [])) (Stuck (3 ∷ [])) × IsAfterRun (reason.Stuck (3 ∷ [])) NoMemory
after_stuck = (inl refl, inr (inr refl))

after_an_over_release : IsAfterRun (reason.Fault (3 ∷ []) (OverRelease 0)) (TaskFault (3 ∷ []) (OverRelease 0))
after_an_over_release = inl refl

stuck_hidden_by_the_output : ¬ IsAfterRun (reason.Stuck (3 ∷ [])) WriteFault
stuck_hidden_by_the_output (inl same) = absurd (cc)
stuck_hidden_by_the_output (inr (inl (fine, same))) = absurd (cc)
stuck_hidden_by_the_output (inr (inr same)) = absurd (cc)

stuck_without_a_wait : ¬ IsAfterRun reason.Fine (Stuck (3 ∷ []))
stuck_without_a_wait (inl same) = absurd (cc)
stuck_without_a_wait (inr (inl (fine, same))) = absurd (cc)
stuck_without_a_wait (inr (inr same)) = absurd (cc)

stuck_called_limit : ¬ IsAfterRun (reason.Stuck (3 ∷ [])) (Limit [] 9)
stuck_called_limit (inl same) = absurd (cc)
stuck_called_limit (inr (inl (fine, same))) = absurd (cc)
stuck_called_limit (inr (inr same)) = absurd (cc)

not_after_run : ¬ IsAfterRun reason.Fine BadWords
not_after_run (inl same) = absurd (cc)
not_after_run (inr (inl (fine, same))) = absurd (cc)
not_after_run (inr (inr same)) = absurd (cc)

-- A call that stopped before a run isn't done, and keeps none.
never_done_before : (why : Stop) → ¬ (Done ≡ status_of why)
never_done_before (stop.BadGraph error) same = absurd (cc)
never_done_before (stop.NoSource spot) same = absurd (cc)
never_done_before (stop.NoText name) same = absurd (cc)
never_done_before (stop.LongText name) same = absurd (cc)
never_done_before (stop.ReadFault name) same = absurd (cc)
never_done_before (stop.BadJournal line) same = absurd (cc)
never_done_before stop.NoMemory same = absurd (cc)

done_keeps_a_run : ¬ RunEnds held g 77 once Done []
done_keeps_a_run (inl stopped) = never_done_before stopped.why stopped.reported
done_keeps_a_run (inr ran) = let one = one_round ran.job [] (ran.all (λ (memory : Done ≡ NoMemory). absurd (cc))) in let only : [] ≡ one.0 ∷ [] = one.1 in absurd (cc)

module _ (run other : TextRun) where
  one_run_is_kept : ¬ RunEnds held g 77 once Done (run ∷ other ∷ [])
  one_run_is_kept (inl stopped) = never_done_before stopped.why stopped.reported
  one_run_is_kept (inr ran) = absurd (omega (arith, ran.first.few))

-- A command line that asks for a run isn't refused, and one that asks for nothing is.
never_bad : (why : Stop) → ¬ (BadWords ≡ status_of why)
never_bad (stop.BadGraph error) same = absurd (cc)
never_bad (stop.NoSource spot) same = absurd (cc)
never_bad (stop.NoText name) same = absurd (cc)
never_bad (stop.LongText name) same = absurd (cc)
never_bad (stop.ReadFault name) same = absurd (cc)
never_bad (stop.BadJournal line) same = absurd (cc)
never_bad stop.NoMemory same = absurd (cc)

module _ (arguments : List (List ℕ)) where
  asked : asked_by arguments ≡ Some (run_of g 77 4 once false) → ¬ CallEnds held arguments BadWords [] None
  asked asks (inl ends) = by_end (subst (λ ask. AskedEnds held ask BadWords [] None) asks ends).0
    where
      by_end : ¬ RunEnds held g 77 once BadWords []
      by_end (inl stopped) = never_bad stopped.why stopped.reported
      by_end (inr ran) = not_after_run ran.after
  asked asks (inr (memory, none, nothing)) = absurd (cc)

  asked_to_judge : asked_by arguments ≡ Some (judge_of g t 77) → ¬ CallEnds held arguments BadWords [] None
  asked_to_judge asks (inl ends) = by_end (subst (λ ask. AskedEnds held ask BadWords [] None) asks ends).0
    where
      by_end : ¬ JudgeEnds held g t 77 BadWords None
      by_end (inl stopped) = never_bad stopped.why stopped.reported
      by_end (inr ended) = let only : None ≡ Some (conclusion.Verdict ended.verdict) = ended.only in absurd (cc)
  asked_to_judge asks (inr (memory, none, nothing)) = absurd (cc)

  asked_to_check : asked_by arguments ≡ Some (check_of g) → ¬ CallEnds held arguments BadWords [] None
  asked_to_check asks (inl ends) = by_end (subst (λ ask. AskedEnds held ask BadWords [] None) asks ends).0
    where
      by_end : ¬ CheckEnds held g BadWords None
      by_end (inl stopped) = never_bad stopped.why stopped.reported
      by_end (inr ended) = let only : None ≡ Some (conclusion.Findings ended.found) = ended.only in absurd (cc)
  asked_to_check asks (inr (memory, none, nothing)) = absurd (cc)

  asked_to_upgrade : asked_by arguments ≡ Some (upgrade_of g) → ¬ CallEnds held arguments BadWords [] None
  asked_to_upgrade asks (inl ends) = by_end (subst (λ ask. AskedEnds held ask BadWords [] None) asks ends).0
    where
      by_end : ¬ UpgradeEnds held g BadWords None
      by_end (inl stopped) = never_bad stopped.why stopped.reported
      by_end (inr ended) = let only : None ≡ Some (conclusion.GraphFile ended.text) = ended.only in absurd (cc)
  asked_to_upgrade asks (inr (memory, none, nothing)) = absurd (cc)

  refused : asked_by arguments ≡ None → CallEnds held arguments BadWords [] None
  refused none = inl (subst (λ ask. AskedEnds held ask BadWords [] None) (sym none) (refl, refl, refl))

  -- It keeps no run and comes to no conclusion, also where memory runs out.
  run_of_nothing : asked_by arguments ≡ None → (told : Status) (run : TextRun) → ¬ CallEnds held arguments told (run ∷ []) None
  run_of_nothing nothing told run (inl ends) = let none : run ∷ [] ≡ [] = (subst (λ ask. AskedEnds held ask told (run ∷ []) None) nothing ends).1 in absurd (omega (arith, ap length none))
  run_of_nothing nothing told run (inr (memory, none, untold)) = absurd (omega (arith, ap length none))

  conclusion_of_nothing : asked_by arguments ≡ None → (told : Status) → ¬ CallEnds held arguments told [] (Some (conclusion.Verdict Finished))
  conclusion_of_nothing nothing told (inl ends) = let none : Some (conclusion.Verdict Finished) ≡ None = (subst (λ ask. AskedEnds held ask told [] (Some (conclusion.Verdict Finished))) nothing ends).2 in absurd (cc)
  conclusion_of_nothing nothing told (inr (memory, none, untold)) = absurd (cc)

  -- A run has no conclusion, and a judgement, a check, an upgrade and a count keep no run.
  verdict_on_a_run : asked_by arguments ≡ Some (run_of g 77 4 once false) → ¬ CallEnds held arguments Done [] (Some (conclusion.Verdict Finished))
  verdict_on_a_run asks (inl ends) = let none : Some (conclusion.Verdict Finished) ≡ None = (subst (λ ask. AskedEnds held ask Done [] (Some (conclusion.Verdict Finished))) asks ends).1 in absurd (cc)
  verdict_on_a_run asks (inr (memory, none, nothing)) = absurd (cc)

  run_of_a_judgement : (run : TextRun) → asked_by arguments ≡ Some (judge_of g t 77) → ¬ CallEnds held arguments Done (run ∷ []) None
  run_of_a_judgement run asks (inl ends) = let none : run ∷ [] ≡ [] = (subst (λ ask. AskedEnds held ask Done (run ∷ []) None) asks ends).1 in absurd (omega (arith, ap length none))
  run_of_a_judgement run asks (inr (memory, none, nothing)) = absurd (cc)

  run_of_a_check : (run : TextRun) (found : List GraphFindings) → asked_by arguments ≡ Some (check_of g) → ¬ CallEnds held arguments Done (run ∷ []) (Some (conclusion.Findings found))
  run_of_a_check run found asks (inl ends) = let none : run ∷ [] ≡ [] = (subst (λ ask. AskedEnds held ask Done (run ∷ []) (Some (conclusion.Findings found))) asks ends).1 in absurd (omega (arith, ap length none))
  run_of_a_check run found asks (inr (memory, none, nothing)) = absurd (cc)

  run_of_an_upgrade : (run : TextRun) (text : List ℕ) → asked_by arguments ≡ Some (upgrade_of g) → ¬ CallEnds held arguments Done (run ∷ []) (Some (conclusion.GraphFile text))
  run_of_an_upgrade run text asks (inl ends) = let none : run ∷ [] ≡ [] = (subst (λ ask. AskedEnds held ask Done (run ∷ []) (Some (conclusion.GraphFile text))) asks ends).1 in absurd (omega (arith, ap length none))
  run_of_an_upgrade run text asks (inr (memory, none, nothing)) = absurd (cc)

  run_of_a_count : (run : TextRun) (lines : ℕ) → asked_by arguments ≡ Some (count_of u t 1 4) → ¬ CallEnds held arguments Done (run ∷ []) (Some (conclusion.WordLines lines))
  run_of_a_count run lines asks (inl ends) = let none : run ∷ [] ≡ [] = (subst (λ ask. AskedEnds held ask Done (run ∷ []) (Some (conclusion.WordLines lines))) asks ends).1 in absurd (omega (arith, ap length none))
  run_of_a_count run lines asks (inr (memory, none, nothing)) = absurd (cc)

-- What has been done to a sink of memory when the call ends.
abbrev sink : List ℕ → ℕ → SinkState
sink taken faults = record { taken = Some taken; held_back = []; faults = faults }

abbrev of_memory : SinkState → SinkState
of_memory state = state

-- Nothing to write: the output stays as it is, and that is no failure to write.
nothing_reported : Reported of_memory (sink [] 0) (sink [] 0) (NoText t) once false [] true
nothing_reported = record {
  front = record { lost = []; but = record { front = []; parts = refl; took = refl } };
  whole = λ written. refl;
  nothing_held = refl;
  no_fault = λ written. refl;
  cause = λ failed. absurd (cc);
  no_fewer = omega arith;
  done = λ is. absurd (cc);
  write_fault = λ is. absurd (cc);
  untouched = λ none. refl;
  nothing_to_write = λ none. refl;
}

failed_empty_write_hidden : ¬ Reported of_memory (sink [] 0) (sink [] 1) (NoText t) once false [] true
failed_empty_write_hidden is = absurd (omega (arith, is.no_fault refl))

bytes_without_a_run : ¬ Reported of_memory (sink [] 0) (sink (7 ∷ []) 0) (NoText t) once false [] true
bytes_without_a_run is = let stays : (sink (7 ∷ []) 0) ≡ (sink [] 0) = is.untouched refl in absurd (omega (arith, ap taken_length stays))
  where
    taken_length : SinkState → ℕ
    taken_length state = elim state.taken [ None ↦ 0 | Some bytes ↦ length bytes ]

written_denied_without_a_run : ¬ Reported of_memory (sink [] 0) (sink [] 0) (NoText t) once false [] false
written_denied_without_a_run is = let written : false ≡ true = is.nothing_to_write refl in absurd (cc)

module _ (runs : List TextRun) where
  failed_write_hidden : ¬ Reported of_memory (sink [] 0) (sink [] 1) Done once false runs true
  failed_write_hidden is = absurd (omega (arith, is.no_fault refl))

  fault_without_a_failed_write : ¬ Reported of_memory (sink [] 0) (sink [] 0) WriteFault once false runs false
  fault_without_a_failed_write is = neither (is.cause refl)
    where
      neither : (0 < 0) ⊎ (WriteFault ≡ NoMemory) → ⊥
      neither (inl rose) = omega arith
      neither (inr same) = absurd (cc)

  fault_beside_a_whole_report : ¬ Reported of_memory (sink [] 0) (sink [] 1) WriteFault once false runs true
  fault_beside_a_whole_report is = let written : true ≡ false = is.write_fault refl in absurd (cc)

  done_with_a_prefix : ¬ Reported of_memory (sink [] 0) (sink [] 1) Done once false runs false
  done_with_a_prefix is = let written : false ≡ true = is.done refl in absurd (cc)

  bytes_held_back : ¬ Reported of_memory (sink [] 0) (record { taken = Some []; held_back = 7 ∷ []; faults = 0 }) Done once false runs true
  bytes_held_back is = let none = is.nothing_held in absurd (cc)

  faults_forgotten : ¬ Reported of_memory (sink [] 2) (sink [] 1) NoMemory once false runs false
  faults_forgotten is = absurd (omega (arith, is.no_fewer))

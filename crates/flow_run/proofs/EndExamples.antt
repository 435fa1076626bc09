-- How a call ends before and after its run, its judgement and its check, computed on a graph file `g` of one byte and a
-- text `t` of two.
use Rattle.std.proofs.Common.{◌≡◌, ℕ, zero, suc, ◌+◌, ◌<◌, ◌≤◌, List, [], ◌∷◌, ◌++◌, length, Option, Some, None, true, false, inl, inr, refl, arith, ap, sym, subst, ◌∙◌, Result, Ok}
use Rattle.std.specs.Prelude.{if◌then◌else◌, bytes_eq, All, IsSomeAnd}
use Rattle.std.specs.Io.KnownBytes.{append_known}
use Rattle.std.proofs.lemmas.List.{length-append}
use Rattle.std.proofs.lemmas.List.Elements.{All-from_recursion}
use Rattle.std.proofs.lemmas.Option.{none-some}
use Rattle.outside_io.specs.Sink.{SinkState}
use Rattle.task_graph.specs.NetRows.{NetRows}
use Rattle.task_graph.specs.Net.{IsSource}
use Rattle.task_graph.specs.declared.net.Shape.TheVariants.{Plain}
use Rattle.task_graph.specs.declared.net.TaskRow.{TaskRow}
use Rattle.graph_plans.specs.PlanRows.{PlanRows}
use Rattle.task_graph.specs.Sources.{HasNoSource}
use Rattle.graph_plans.specs.Sources.{NoSourceAnswer}
use Rattle.graph_plans.specs.declared.spots.Spot.TheVariants.{File, Module, Task}
use Rattle.graph_drafts.specs.declared.refusals.GraphError.{GraphError}
use Rattle.graph_drafts.specs.declared.refusals.GraphError.TheVariants.{NotJson}
use Rattle.graph_file.specs.PlanText.{PlanText, IsRefused}
use Rattle.journal_rules.specs.declared.entry.Entry.{Entry}
use Rattle.journal_text.specs.JournalText.{IsJournalText}
use Rattle.legal_run.specs.declared.verdict.Break.{Break}
use Rattle.legal_run.specs.declared.verdict.Verdict.TheVariants.{Complete as Finished, Breaks}
use Rattle.legal_run.specs.Verdict.{IsVerdict}
use Rattle.run_frame.specs.NestedRule.{job_of}
use Rattle.text_tasks.specs.JobMeaning.{job_plan}
use Rattle.nested_runs.specs.declared.reasons.Reason.{Reason}
use Rattle.nested_runs.specs.declared.reasons.Reason.TheVariants as reason
use Rattle.call_status.specs.declared.status.Status.{Status}
use Rattle.call_status.specs.declared.status.Status.TheVariants.{Done, NoText, NoMemory}
use Rattle.call_status.specs.declared.stop.Stop.{Stop}
use Rattle.call_status.specs.declared.stop.Stop.TheVariants as stop
use Rattle.call_status.specs.Statuses.{status_after, status_of}
use Rattle.command_line.specs.Requests.{asked_by, once, run as run_of, judge as judge_of, check as check_of}
use Rattle.flow_run.specs.declared.conclusion.Conclusion.{Conclusion}
use Rattle.flow_run.specs.declared.conclusion.Conclusion.TheVariants as conclusion
use Rattle.flow_run.specs.declared.conclusion.GraphFindings.{GraphFindings}
use Rattle.flow_run.specs.Requests.{SourceTexts, StopsAtName, IsAdded, StopsAtText, HasStart, StopsAtBytes, StopsAtGraph, StopsBefore, HasPlan, CanBeRun, text_limit}
use Rattle.flow_run.specs.Answers.{AskedEnds, TextRun, IsAfterRun, RunEnds, CallEnds, Reported}
use Rattle.flow_run.specs.Profiles.{plan_run}
use Rattle.flow_run.specs.RoundTexts.{last_reason, rounds_text}
use Rattle.flow_run.specs.Judgements.{StopsAtJournal, StopsAtJournalText, StopsBeforeVerdict, JudgeEnds, CanBeJudged}
use Rattle.flow_run.specs.PlanFiles.{StopsBeforePlan, HoldsPlan}
use Rattle.flow_run.specs.Checks.{EndsChecked, CheckEnds}

abbrev g : List ℕ
g = 0 ∷ []

abbrev t : List ℕ
t = 1 ∷ []

abbrev u : List ℕ
u = 2 ∷ []

-- these bytes are held under `g`, and these under `t`
abbrev texts : List ℕ → List ℕ → List ℕ → Option (List ℕ)
texts graph text name = if bytes_eq name g then Some graph else (if bytes_eq name t then Some text else None)

abbrev held : SourceTexts
held = Some (texts (1 ∷ []) (2 ∷ 3 ∷ []))

-- these bytes under each name
abbrev all_hold : List ℕ → SourceTexts
all_hold bytes = Some (λ name. Some bytes)

abbrev known_length : Option (List ℕ) → ℕ
known_length None = 0
known_length (Some bytes) = length bytes

abbrev ok_plan : PlanRows → Result PlanRows GraphError
ok_plan plan = Ok plan

-- ---- names and texts

memory_at_a_name : StopsAtName held t 2 stop.NoMemory
memory_at_a_name = tt

bad_journal_at_a_name : ¬ StopsAtName held t 2 (stop.BadJournal 1)
bad_journal_at_a_name is = is

-- of a source that doesn't specify what it holds each answer may come
missing_of_an_unspecified_source : StopsAtName None t 2 (stop.NoText t) × StopsAtName None t 2 (stop.LongText t)
missing_of_an_unspecified_source = ((refl, tt), (refl, tt))

-- A text that was read stands behind the others.
text_added : IsAdded held t ((9 ∷ []) ∷ []) ((9 ∷ []) ∷ (2 ∷ 3 ∷ 10 ∷ []) ∷ [])
text_added = record { text = 2 ∷ 3 ∷ 10 ∷ []; row = refl; read = record { bytes = 2 ∷ 3 ∷ []; read = (refl, omega arith); is = refl } }

text_added_in_front : ¬ IsAdded held t ((9 ∷ []) ∷ []) ((2 ∷ 3 ∷ 10 ∷ []) ∷ (9 ∷ []) ∷ [])
text_added_in_front is = let row = is.row in absurd (cc)

text_left_out : ¬ IsAdded held t ((9 ∷ []) ∷ []) ((9 ∷ []) ∷ [])
text_left_out is = let row = is.row in absurd (cc)

missing_text_added : ¬ IsAdded held u [] ((2 ∷ 3 ∷ 10 ∷ []) ∷ [])
missing_text_added is = let none : None ≡ Some is.read.bytes = is.read.read.0 in absurd (cc)

-- A name that isn't among those that are read stops nothing.
text_that_is_not_named : ¬ StopsAtText held (t ∷ []) (stop.NoText u)
text_that_is_not_named is = none is.before is.name is.after is.parts is.stops
  where
    none : (before : List (List ℕ)) (name : List ℕ) (after : List (List ℕ)) → t ∷ [] ≡ before ++ name ∷ after → StopsAtName held name text_limit (stop.NoText u) → ⊥
    none [] name after parts stops = let first : t ≡ name = cc in let named : u ≡ name = stops.0 in absurd (cc)
    none (first ∷ before) name after parts stops =
        let longer : 1 ≡ suc (length before + suc (length after)) = ap length parts ∙ ap suc (length-append before (name ∷ after)) in
        absurd (omega (arith, longer))

-- ---- graphs that can begin

abbrev plan_of : NetRows → PlanRows
plan_of net = record { top = record { name = []; names = []; ops = []; sem_names = []; net = net }; modules = []; texts = [] }

abbrev task : TaskRow
task = record { shape = Plain; takes = []; puts = [] }

-- a task alone, and one that leads to itself
abbrev alone : NetRows
alone = record { tasks = task ∷ []; edges = []; sems = [] }

abbrev ring : NetRows
ring = record { tasks = task ∷ []; edges = record { from = 0; to = 0; start = false } ∷ []; sems = [] }

ring_has_no_source : HasNoSource ring
ring_has_no_source = record { some = omega arith; none = never }
  where
    never : (n : ℕ) → n < 1 → IsSource ring n → ⊥
    never zero below is = absurd (cc)
    never (suc n) below is = absurd (omega (arith, below))

source_begins : HasStart (plan_of alone)
source_begins = record { top = λ none. none.none 0 (omega arith) refl; modules = λ k d below none. absurd (omega (arith, below)) }

no_tasks_begin : HasStart (plan_of (record { tasks = []; edges = []; sems = [] }))
no_tasks_begin = record { top = λ none. absurd (omega (arith, none.some)); modules = λ k d below none. absurd (omega (arith, below)) }

ring_does_not_begin : ¬ HasStart (plan_of ring)
ring_does_not_begin is = is.top ring_has_no_source

module _ (bytes : List ℕ) (plan : PlanRows) (stands : PlanText bytes plan) where
  stops_without_a_source : HasNoSource plan.top.net → StopsAtBytes bytes (stop.NoSource File)
  stops_without_a_source none = (plan, stands, none)

  source_does_not_stop : HasStart plan → ¬ StopsAtBytes bytes (stop.NoSource File)
  source_does_not_stop source (other, is, none) =
      let both : ok_plan other ≡ ok_plan plan = sym is ∙ stands in
      let same : other ≡ plan = cc in
      source.top (subst (λ (p : PlanRows). HasNoSource p.top.net) same none)

  stops_without_a_source_in_a_module : NoSourceAnswer plan (Some (Module 0)) → StopsAtBytes bytes (stop.NoSource (Module 0))
  stops_without_a_source_in_a_module none = (plan, stands, none)

no_source_in_a_task : (bytes : List ℕ) → ¬ StopsAtBytes bytes (stop.NoSource (Task 0))
no_source_in_a_task bytes (plan, stands, none) = none

memory_at_a_graph : (bytes : List ℕ) → StopsAtBytes bytes stop.NoMemory
memory_at_a_graph bytes = tt

-- ---- before a run

missing_graph : StopsBefore held u (stop.NoText u)
missing_graph = inl (refl, refl)

refused_graph : IsRefused (1 ∷ []) NotJson → StopsBefore held g (stop.BadGraph NotJson)
refused_graph refused = inr (inl (record { bytes = 1 ∷ []; read = (refl, omega arith); stops = refused }))

missing_graph_is_not_refused : ¬ StopsBefore held u (stop.BadGraph NotJson)
missing_graph_is_not_refused (inl at) = at
missing_graph_is_not_refused (inr (inl at)) = let none : None ≡ Some at.bytes = at.read.0 in absurd (cc)
missing_graph_is_not_refused (inr (inr behind)) = behind.stops.stops

graph_over_its_limit : (bytes : List ℕ) → length bytes ≡ 4194305 → StopsBefore (all_hold bytes) g (stop.LongText g)
graph_over_its_limit bytes long = inl (refl, omega (arith, long))

graph_at_its_limit : (bytes : List ℕ) → length bytes ≡ 4194304 → ¬ StopsBefore (all_hold bytes) g (stop.LongText g)
graph_at_its_limit bytes long (inl at) = absurd (omega (arith, long, at.1))
graph_at_its_limit bytes long (inr (inl at)) = at.stops
graph_at_its_limit bytes long (inr (inr behind)) = absurd (omega (arith, long, behind.stops.stops.1))

long_graph_is_not_read : (bytes : List ℕ) → length bytes ≡ 4194305 → ¬ StopsAtGraph (all_hold bytes) g stop.NoMemory
long_graph_is_not_read bytes long at = let same : Some bytes ≡ Some at.bytes = at.read.0 in absurd (omega (arith, long, ap known_length same, at.read.1))

missing_text_behind_a_graph : (plan : PlanRows) → HasPlan held g plan → plan.texts ≡ u ∷ [] → StopsBefore held g (stop.NoText u)
missing_text_behind_a_graph plan has names =
    inr (inr (record { plan = plan; has = has; stops = record { before = []; name = u; after = []; texts = []; parts = names; read = tt; stops = (refl, refl) } }))

text_that_is_there : ¬ StopsBefore held g (stop.NoText t)
text_that_is_there (inl at) = let same = at.0 in absurd (cc)
text_that_is_there (inr (inl at)) = at.stops
text_that_is_there (inr (inr behind)) =
    let none : Some (2 ∷ 3 ∷ []) ≡ None = subst (λ name. texts (1 ∷ []) (2 ∷ 3 ∷ []) name ≡ None) (sym behind.stops.stops.0) behind.stops.stops.1 in
    absurd (none-some (2 ∷ 3 ∷ []) (sym none))

stopped_before_its_run : RunEnds held u 77 once (NoText u) []
stopped_before_its_run = inl (record { why = stop.NoText u; stops = missing_graph; reported = refl; none = refl })

-- No run is told as a text that is missing.
never_missing : (why : Reason) (name : List ℕ) → ¬ IsAfterRun why (NoText name)
never_missing why name (inl same) = none why same
  where
    none : (why : Reason) → ¬ (NoText name ≡ status_after why)
    none reason.Fine same = absurd (cc)
    none (reason.Fault path fault) same = absurd (cc)
    none (reason.Limit path limit) same = absurd (cc)
    none (reason.Stuck path) same = absurd (cc)
never_missing why name (inr (inl (fine, same))) = absurd (cc)
never_missing why name (inr (inr same)) = absurd (cc)

run_beside_a_stop : (run : TextRun) → ¬ RunEnds held u 77 once (NoText u) (run ∷ [])
run_beside_a_stop run (inl stopped) = let none = stopped.none in absurd (cc)
run_beside_a_stop run (inr ran) = never_missing (last_reason (run ∷ [])) u ran.after

stop_that_is_told_of_nothing : ¬ RunEnds held g 77 once (NoText t) []
stop_that_is_told_of_nothing (inl stopped) = by_reason stopped.why stopped.stops stopped.reported
  where
    by_reason : (why : Stop) → StopsBefore held g why → NoText t ≡ status_of why → ⊥
    by_reason (stop.BadGraph error) stops same = absurd (cc)
    by_reason (stop.NoSource spot) stops same = absurd (cc)
    by_reason (stop.NoText name) stops same = let named : t ≡ name = cc in text_that_is_there (subst (λ n. StopsBefore held g (stop.NoText n)) (sym named) stops)
    by_reason (stop.LongText name) stops same = absurd (cc)
    by_reason (stop.ReadFault name) stops same = absurd (cc)
    by_reason (stop.BadJournal line) stops same = absurd (cc)
    by_reason stop.NoMemory stops same = absurd (cc)
stop_that_is_told_of_nothing (inr ran) = never_missing reason.Fine t ran.after

plan_of_the_first_run : (run other : TextRun) → plan_run (run ∷ other ∷ []) ≡ job_plan (job_of run)
plan_of_the_first_run run other = refl

-- ---- a call, by what its command line asks for

module _ (arguments : List (List ℕ)) (status : Status) where
  call_of_a_run : (runs : List TextRun) → asked_by arguments ≡ Some (run_of g 77 4 once false) → RunEnds held g 77 once status runs → CallEnds held arguments status runs None
  call_of_a_run runs asks ends = inl (subst (λ asked. AskedEnds held asked status runs None) (sym asks) (ends, refl))

  call_of_a_judgement : (concluded : Option Conclusion) → asked_by arguments ≡ Some (judge_of g t 77) → JudgeEnds held g t 77 status concluded → CallEnds held arguments status [] concluded
  call_of_a_judgement concluded asks ends = inl (subst (λ asked. AskedEnds held asked status [] concluded) (sym asks) (ends, refl))

  call_of_a_check : (concluded : Option Conclusion) → asked_by arguments ≡ Some (check_of g) → CheckEnds held g status concluded → CallEnds held arguments status [] concluded
  call_of_a_check concluded asks ends = inl (subst (λ asked. AskedEnds held asked status [] concluded) (sym asks) (ends, refl))

  call_without_memory : CallEnds held arguments NoMemory [] None
  call_without_memory = inr (refl, refl, refl)

-- ---- the journal in place of the report, where that is asked for

abbrev sink : List ℕ → ℕ → SinkState
sink taken faults = record { taken = Some taken; held_back = []; faults = faults }

abbrev of_memory : SinkState → SinkState
of_memory state = state

-- `flow journal 2` and `-- a`, the journal and the report of a run of one task in which nothing has started
abbrev empty_journal : List ℕ
empty_journal = 102 ∷ 108 ∷ 111 ∷ 119 ∷ 32 ∷ 106 ∷ 111 ∷ 117 ∷ 114 ∷ 110 ∷ 97 ∷ 108 ∷ 32 ∷ 50 ∷ 10 ∷ []

abbrev empty_report : List ℕ
empty_report = 45 ∷ 45 ∷ 32 ∷ 97 ∷ 10 ∷ []

module _ (run : TextRun) (journal : rounds_text once true (run ∷ []) ≡ empty_journal) (report : rounds_text once false (run ∷ []) ≡ empty_report) where
  journal_written : Reported of_memory (sink [] 0) (sink empty_journal 0) Done once true (run ∷ []) true
  journal_written = record {
    front = record { lost = []; but = record { front = empty_journal; parts = journal; took = refl } };
    whole = λ written. ap (append_known (Some [])) (sym journal);
    nothing_held = refl;
    no_fault = λ written. refl;
    cause = λ failed. absurd (cc);
    no_fewer = omega arith;
    done = λ is. refl;
    write_fault = λ is. absurd (cc);
    untouched = λ none. absurd (cc);
    nothing_to_write = λ none. absurd (cc);
  }

  report_in_place_of_the_journal : ¬ Reported of_memory (sink [] 0) (sink empty_report 0) Done once true (run ∷ []) true
  report_in_place_of_the_journal is =
      let whole : Some empty_report ≡ Some empty_journal = is.whole refl ∙ ap (append_known (Some [])) journal in
      absurd (omega (arith, ap known_length whole))

  prefix_without_memory : Reported of_memory (sink [] 0) (sink (102 ∷ []) 0) NoMemory once true (run ∷ []) false
  prefix_without_memory = record {
    front = record { lost = 108 ∷ 111 ∷ 119 ∷ 32 ∷ 106 ∷ 111 ∷ 117 ∷ 114 ∷ 110 ∷ 97 ∷ 108 ∷ 32 ∷ 50 ∷ 10 ∷ []; but = record { front = 102 ∷ []; parts = journal; took = refl } };
    whole = λ written. absurd (cc);
    nothing_held = refl;
    no_fault = λ written. absurd (cc);
    cause = λ failed. inr refl;
    no_fewer = omega arith;
    done = λ is. absurd (cc);
    write_fault = λ is. absurd (cc);
    untouched = λ none. absurd (cc);
    nothing_to_write = λ none. absurd (cc);
  }

-- ---- before a verdict

module _ (bytes : List ℕ) where
  abbrev with_journal : SourceTexts
  with_journal = Some (texts (1 ∷ []) bytes)

  journal_over_its_limit : length bytes ≡ 67108865 → StopsAtJournal with_journal t (stop.LongText t)
  journal_over_its_limit long = inl (refl, omega (arith, long))

  journal_at_its_limit : length bytes ≡ 67108864 → ¬ StopsAtJournal with_journal t (stop.LongText t)
  journal_at_its_limit long (inl at) = absurd (omega (arith, long, at.1))
  journal_at_its_limit long (inr at) = at.stops

  long_journal_is_not_read : length bytes ≡ 67108865 → ¬ StopsAtJournalText with_journal t stop.NoMemory
  long_journal_is_not_read long at = let same : Some bytes ≡ Some at.bytes = at.read.0 in absurd (omega (arith, long, ap known_length same, at.read.1))

  graph_over_its_limit_before_a_verdict : length bytes ≡ 4194305 → StopsBeforeVerdict (all_hold bytes) g t (stop.LongText g)
  graph_over_its_limit_before_a_verdict long = inl (refl, omega (arith, long))

  graph_at_its_limit_before_a_verdict : length bytes ≡ 4194304 → ¬ StopsBeforeVerdict (all_hold bytes) g t (stop.LongText g)
  graph_at_its_limit_before_a_verdict long (inl at) = absurd (omega (arith, long, at.1))
  graph_at_its_limit_before_a_verdict long (inr (inl at)) = at.stops
  graph_at_its_limit_before_a_verdict long (inr (inr behind)) = by_file behind.stops
    where
      by_file : ¬ StopsAtJournal (all_hold bytes) t (stop.LongText g)
      by_file (inl at) = let named = at.0 in absurd (cc)
      by_file (inr at) = at.stops

bad_line_of_no_journal : ¬ StopsAtJournal held u (stop.BadJournal 1)
bad_line_of_no_journal (inl at) = at
bad_line_of_no_journal (inr at) = let none : None ≡ Some at.bytes = at.read.0 in absurd (cc)

missing_graph_before_a_verdict : StopsBeforeVerdict held u t (stop.NoText u)
missing_graph_before_a_verdict = inl (refl, refl)

refused_graph_before_a_verdict : IsRefused (1 ∷ []) NotJson → StopsBeforeVerdict held g t (stop.BadGraph NotJson)
refused_graph_before_a_verdict refused = inr (inl (record { bytes = 1 ∷ []; read = (refl, omega arith); stops = refused }))

missing_graph_is_not_refused_before_a_verdict : ¬ StopsBeforeVerdict held u t (stop.BadGraph NotJson)
missing_graph_is_not_refused_before_a_verdict (inl at) = at
missing_graph_is_not_refused_before_a_verdict (inr (inl at)) = let none : None ≡ Some at.bytes = at.read.0 in absurd (cc)
missing_graph_is_not_refused_before_a_verdict (inr (inr behind)) = let none : None ≡ Some behind.has.bytes = behind.has.read.0 in absurd (cc)

stopped_before_its_verdict : JudgeEnds held u t 9 (NoText u) None
stopped_before_its_verdict = inl (record { why = stop.NoText u; stops = missing_graph_before_a_verdict; reported = refl; none = refl })

verdict_beside_a_stop : ¬ JudgeEnds held u t 9 (NoText u) (Some (conclusion.Verdict Finished))
verdict_beside_a_stop (inl stopped) = let none = stopped.none in absurd (cc)
verdict_beside_a_stop (inr ended) = let none : None ≡ Some ended.judged.graph.bytes = ended.judged.graph.read.0 in absurd (cc)

-- ---- before findings

missing_file_is_not_refused : ¬ StopsBeforePlan held u (stop.BadGraph NotJson)
missing_file_is_not_refused (inl at) = at
missing_file_is_not_refused (inr at) = let none : None ≡ Some at.bytes = at.read.0 in absurd (cc)

file_at_its_limit : (bytes : List ℕ) → length bytes ≡ 4194304 → ¬ StopsBeforePlan (all_hold bytes) g (stop.LongText g)
file_at_its_limit bytes long (inl at) = absurd (omega (arith, long, at.1))
file_at_its_limit bytes long (inr at) = at.stops

stopped_before_its_findings : CheckEnds held u (NoText u) None
stopped_before_its_findings = inl (record { why = stop.NoText u; stops = inl (refl, refl); reported = refl; none = refl })

findings_beside_a_stop : (found : List GraphFindings) → ¬ CheckEnds held u (NoText u) (Some (conclusion.Findings found))
findings_beside_a_stop found (inl stopped) = let none = stopped.none in absurd (cc)
findings_beside_a_stop found (inr ended) = let none : None ≡ Some ended.checked.bytes = ended.checked.read.0 in absurd (cc)

verdict_of_a_check : ¬ CheckEnds held g Done (Some (conclusion.Verdict Finished))
verdict_of_a_check (inl stopped) = let none = stopped.none in absurd (cc)
verdict_of_a_check (inr ended) = let only = ended.only in absurd (cc)

ends_with_its_findings : (concluded : Option Conclusion) → EndsChecked held g Done concluded → CheckEnds held g Done concluded
ends_with_its_findings concluded ended = inr ended

missing_file_can_not_be_checked : ¬ HoldsPlan (texts (1 ∷ []) (2 ∷ 3 ∷ [])) u
missing_file_can_not_be_checked can = can.graph

-- ---- at the limits, what is asked for can be had

module _ (graph text : List ℕ) (plan : PlanRows) (stands : PlanText graph plan) (source : HasStart plan) (most : length graph ≡ 4194304) where
  at_hand_at_its_limits : length text ≡ 16777215 → plan.texts ≡ t ∷ [] → CanBeRun (texts graph text) g
  at_hand_at_its_limits long names = record {
    plan = plan;
    graph = (omega (arith, most), stands);
    source = source;
    named = subst (All (λ name. IsSomeAnd (texts graph text name) (λ bytes. length bytes ≤ text_limit))) (sym names)
        (All-from_recursion (λ name. IsSomeAnd (texts graph text name) (λ bytes. length bytes ≤ text_limit)) (t ∷ []) (omega (arith, long), tt));
  }

  can_be_judged_at_its_limits : (journal : List Entry) → length text ≡ 67108864 → IsJournalText journal text → ((place : ℕ) (why : Break) → ¬ IsVerdict plan.top.net 9 journal (Breaks place why))
      → CanBeJudged (texts graph text) g t 9
  can_be_judged_at_its_limits journal long is never = record {
    plan = plan;
    journal = journal;
    graph = (omega (arith, most), stands);
    source = source;
    trace = (omega (arith, long), is);
    stands = never;
  }

  can_be_checked_at_its_limit : HoldsPlan (texts graph text) g
  can_be_checked_at_its_limit = record { plan = plan; graph = (omega (arith, most), stands) }

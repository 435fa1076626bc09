-- Where a call stops and what it has done when it ends, computed at the limits and on a report of one line.
use Rattle.std.proofs.Common.{◌≡◌, ℕ, ◌+◌, ◌≤◌, List, [], ◌∷◌, ◌++◌, length, Option, Some, None, true, false, inl, inr, refl, arith, ap, sym, subst, ◌∙◌, Result, Ok, Err}
use Rattle.std.specs.Prelude.{if◌then◌else◌, bytes_eq, All, IsSomeAnd}
use Rattle.std.specs.Io.KnownBytes.{append_known}
use Rattle.std.proofs.lemmas.List.{length-append}
use Rattle.std.proofs.lemmas.List.Elements.{All-from_recursion, All-head}
use Rattle.outside_io.specs.Sink.{SinkState}
use Rattle.graph_plans.specs.PlanRows.{PlanRows}
use Rattle.graph_drafts.specs.declared.refusals.GraphError.{GraphError}
use Rattle.graph_drafts.specs.declared.refusals.GraphError.TheVariants.{NotJson}
use Rattle.graph_file.specs.PlanText.{PlanText, IsRefused}
use Rattle.text_tasks.specs.GraphWork.{GraphWork, first_work}
use Rattle.text_tasks.specs.JobMeaning.{job_plan}
use Rattle.run_frame.specs.NestedRule.{job_of}
use Rattle.text_ops.specs.Lines.{normal}
use Rattle.call_status.specs.declared.status.Status.TheVariants.{Done, WriteFault}
use Rattle.call_status.specs.declared.stop.Stop.TheVariants as stop
use Rattle.flow_run.specs.Requests.{SourceTexts, StopsAtName, IsTextOf, TextsAre, StopsAtText, HasStart, HasPlan, StopsBefore, IsRequested, CanBeRun, text_limit}
use Rattle.flow_run.specs.Answers.{TextRun, Reported}
use Rattle.flow_run.specs.Profiles.{plan_run}
use Rattle.flow_run.specs.RoundTexts.{rounds_text}
use Rattle.command_line.specs.Requests.{once}

abbrev g : List ℕ
g = 0 ∷ []

abbrev t : List ℕ
t = 1 ∷ []

abbrev u : List ℕ
u = 2 ∷ []

-- what is held: a byte under `g`
abbrev held : SourceTexts
held = Some (λ name. if bytes_eq name g then Some (1 ∷ []) else None)

abbrev no_plan : PlanRows
no_plan = record { top = record { name = []; names = []; ops = []; sem_names = []; net = record { tasks = []; edges = []; sems = [] } }; modules = []; texts = [] }

abbrev known_length : Option (List ℕ) → ℕ
known_length None = 0
known_length (Some bytes) = length bytes

-- these bytes under each name
abbrev all_hold : List ℕ → SourceTexts
all_hold bytes = Some (λ name. Some bytes)

-- ---- at the limits

text_at_its_limit : (bytes : List ℕ) → length bytes ≡ 16777215 → ¬ StopsAtText (all_hold bytes) (t ∷ []) (stop.LongText t)
text_at_its_limit bytes long is = absurd (omega (arith, long, is.stops.1))

text_over_its_limit : (bytes : List ℕ) → length bytes ≡ 16777216 → StopsAtText (all_hold bytes) (t ∷ []) (stop.LongText t)
text_over_its_limit bytes long = record { before = []; name = t; after = []; texts = []; parts = refl; read = tt; stops = (refl, omega (arith, long)) }

no_text_over_its_limit : (bytes text : List ℕ) → length bytes ≡ 16777216 → ¬ IsTextOf (all_hold bytes) t text
no_text_over_its_limit bytes text long is = let same : Some bytes ≡ Some is.bytes = is.read.0 in absurd (omega (arith, long, ap known_length same, is.read.1))

text_of_the_most_bytes : (bytes : List ℕ) → length bytes ≡ 16777215 → IsTextOf (all_hold bytes) t (normal bytes)
text_of_the_most_bytes bytes long = record { bytes = bytes; read = (refl, omega (arith, long)); is = refl }

plan_of_the_most_bytes : (bytes : List ℕ) (plan : PlanRows) → length bytes ≡ 4194304 → PlanText bytes plan → HasStart plan → HasPlan (all_hold bytes) g plan
plan_of_the_most_bytes bytes plan long stands source = record { bytes = bytes; read = (refl, omega (arith, long)); stands = stands; source = source }

no_plan_over_its_limit : (bytes : List ℕ) (plan : PlanRows) → length bytes ≡ 4194305 → ¬ HasPlan (all_hold bytes) g plan
no_plan_over_its_limit bytes plan long is = let same : Some bytes ≡ Some is.bytes = is.read.0 in absurd (omega (arith, long, ap known_length same, is.read.1))

plan_without_a_start : (plan : PlanRows) → ¬ HasStart plan → ¬ HasPlan held g plan
plan_without_a_start plan none is = none is.source

-- Of two names without a text the first stops the call.
later_missing : ¬ StopsAtText held (u ∷ (3 ∷ []) ∷ []) (stop.NoText (3 ∷ []))
later_missing is = none is.before is.name is.after is.texts is.parts is.read is.stops
  where
    none : (before : List (List ℕ)) (name : List ℕ) (after kept : List (List ℕ)) → u ∷ (3 ∷ []) ∷ [] ≡ before ++ name ∷ after → TextsAre held before kept → StopsAtName held name text_limit (stop.NoText (3 ∷ [])) → ⊥
    none [] name after kept parts read stops = let first : u ≡ name = cc in let named : 3 ∷ [] ≡ name = stops.0 in absurd (cc)
    none (first ∷ before) name after [] parts read stops = read
    none (first ∷ before) name after (row ∷ kept) parts read stops =
        let same : u ≡ first = cc in
        let is : IsTextOf held u row = subst (λ n. IsTextOf held n row) (sym same) read.0 in
        let some : None ≡ Some is.bytes = is.read.0 in
        absurd (cc)

-- The job of a plan has the limit that is asked for.
limit_of_first_work : (first_work no_plan [] 76).limit ≡ 76
limit_of_first_work = refl

-- ---- the report of a run, which says of its one task that it hasn't ended: `-- a`

abbrev sink : List ℕ → ℕ → SinkState
sink taken faults = record { taken = Some taken; held_back = []; faults = faults }

abbrev of_memory : SinkState → SinkState
of_memory state = state

abbrev small_report : List ℕ
small_report = 45 ∷ 45 ∷ 32 ∷ 97 ∷ 10 ∷ []

module _ (run : TextRun) (report : rounds_text once false (run ∷ []) ≡ small_report) where
  whole_report : Reported of_memory (sink (1 ∷ []) 0) (sink (1 ∷ small_report) 0) Done once false (run ∷ []) true
  whole_report = record {
    front = record { lost = []; but = record { front = small_report; parts = report; took = refl } };
    whole = λ written. ap (append_known (Some (1 ∷ []))) (sym report);
    nothing_held = refl;
    no_fault = λ written. refl;
    cause = λ failed. absurd (cc);
    no_fewer = omega arith;
    done = λ is. refl;
    write_fault = λ is. absurd (cc);
    untouched = λ none. absurd (cc);
    nothing_to_write = λ none. absurd (cc);
  }

  prefix_beside_done : ¬ Reported of_memory (sink [] 0) (sink (45 ∷ 45 ∷ []) 0) Done once false (run ∷ []) true
  prefix_beside_done is =
      let whole : Some (45 ∷ 45 ∷ []) ≡ Some small_report = is.whole refl ∙ ap (append_known (Some [])) report in
      absurd (omega (arith, ap known_length whole))

  prefix_beside_a_fault : Reported of_memory (sink [] 0) (sink (45 ∷ 45 ∷ []) 1) WriteFault once false (run ∷ []) false
  prefix_beside_a_fault = record {
    front = record { lost = 32 ∷ 97 ∷ 10 ∷ []; but = record { front = 45 ∷ 45 ∷ []; parts = report; took = refl } };
    whole = λ written. absurd (cc);
    nothing_held = refl;
    no_fault = λ written. absurd (cc);
    cause = λ failed. inl (omega arith);
    no_fewer = omega arith;
    done = λ is. absurd (cc);
    write_fault = λ is. refl;
    untouched = λ none. absurd (cc);
    nothing_to_write = λ none. absurd (cc);
  }

  more_than_the_report : ¬ Reported of_memory (sink [] 0) (sink (small_report ++ 9 ∷ []) 1) WriteFault once false (run ∷ []) false
  more_than_the_report is =
      let took : Some (small_report ++ 9 ∷ []) ≡ Some is.front.but.front = is.front.but.took in
      let parts : small_report ≡ is.front.but.front ++ is.front.lost = sym report ∙ is.front.but.parts in
      let longer : 5 ≡ length is.front.but.front + length is.front.lost = ap length parts ∙ length-append is.front.but.front is.front.lost in
      absurd (omega (arith, ap known_length took, longer))

-- ---- the kept run

plan_of_the_run : (run : TextRun) → (plan_run [] ≡ None) × (plan_run (run ∷ []) ≡ job_plan (job_of run))
plan_of_the_run run = (refl, refl)

-- ---- what is asked for, and what can be had of it: a graph file `g` that names no text, or the text `t`

abbrev ok_plan : PlanRows → Result PlanRows GraphError
ok_plan plan = Ok plan

-- where the graph is refused no text stops the call
text_behind_a_refused_graph : IsRefused (1 ∷ []) NotJson → ¬ StopsBefore held g (stop.NoText t)
text_behind_a_refused_graph refused (inl (same, none)) = absurd (cc)
text_behind_a_refused_graph refused (inr (inl at)) = at.stops
text_behind_a_refused_graph refused (inr (inr behind)) =
    let same : Some (1 ∷ []) ≡ Some behind.has.bytes = behind.has.read.0 in
    let bytes : 1 ∷ [] ≡ behind.has.bytes = cc in
    let both : ok_plan behind.plan ≡ Err NotJson = sym (subst (λ read. PlanText read behind.plan) (sym bytes) behind.has.stands) ∙ refused in
    absurd (cc)

work_of_another_plan : (plan : PlanRows) (work : GraphWork) → PlanText (1 ∷ []) plan → ¬ (work.plan ≡ plan) → ¬ IsRequested held g 77 work
work_of_another_plan plan work stands other is =
    let same : Some (1 ∷ []) ≡ Some is.plan.bytes = is.plan.read.0 in
    let bytes : 1 ∷ [] ≡ is.plan.bytes = cc in
    let both : ok_plan work.plan ≡ ok_plan plan = sym (subst (λ read. PlanText read work.plan) (sym bytes) is.plan.stands) ∙ stands in
    other (cc)

-- a source that holds these bytes under `g`, and these under `t`
abbrev both_held : List ℕ → List ℕ → List ℕ → Option (List ℕ)
both_held graph text name = if bytes_eq name g then Some graph else (if bytes_eq name t then Some text else None)

module _ (plan : PlanRows) (stands : PlanText (1 ∷ []) plan) where
  -- it can be had where the graph can begin and the text that it names is held
  at_hand_with_its_text : HasStart plan → plan.texts ≡ t ∷ [] → CanBeRun (both_held (1 ∷ []) (2 ∷ 3 ∷ [])) g
  at_hand_with_its_text source names = record {
    plan = plan;
    graph = (omega arith, stands);
    source = source;
    named = subst (All (λ name. IsSomeAnd (both_held (1 ∷ []) (2 ∷ 3 ∷ []) name) (λ bytes. length bytes ≤ text_limit))) (sym names)
        (All-from_recursion (λ name. IsSomeAnd (both_held (1 ∷ []) (2 ∷ 3 ∷ []) name) (λ bytes. length bytes ≤ text_limit)) (t ∷ []) (omega arith, tt));
  }

  -- the plan of what is at hand is this one
  its_plan : (text : List ℕ) (can : CanBeRun (both_held (1 ∷ []) text) g) → can.plan ≡ plan
  its_plan text can = let both : ok_plan can.plan ≡ ok_plan plan = sym can.graph.1 ∙ stands in cc

  graph_that_can_not_begin : (text : List ℕ) → ¬ HasStart plan → ¬ CanBeRun (both_held (1 ∷ []) text) g
  graph_that_can_not_begin text none can = none (subst HasStart (its_plan text can) can.source)

  -- the first of the texts that it names
  its_name : (text name : List ℕ) → plan.texts ≡ name ∷ [] → CanBeRun (both_held (1 ∷ []) text) g → IsSomeAnd (both_held (1 ∷ []) text name) (λ bytes. length bytes ≤ text_limit)
  its_name text name names can =
      let its : can.plan.texts ≡ name ∷ [] = ap (λ (p : PlanRows). p.texts) (its_plan text can) ∙ names in
      All-head (λ n. IsSomeAnd (both_held (1 ∷ []) text n) (λ bytes. length bytes ≤ text_limit)) name []
      (subst (All (λ n. IsSomeAnd (both_held (1 ∷ []) text n) (λ bytes. length bytes ≤ text_limit))) its can.named)

  named_text_missing : (text : List ℕ) → plan.texts ≡ u ∷ [] → ¬ CanBeRun (both_held (1 ∷ []) text) g
  named_text_missing text names can = its_name text u names can

  named_text_too_long : (text : List ℕ) → length text ≡ 16777216 → plan.texts ≡ t ∷ [] → ¬ CanBeRun (both_held (1 ∷ []) text) g
  named_text_too_long text long names can =
      let few : length text ≤ 16777215 = its_name text t names can in
      absurd (omega (arith, long, few))

graph_missing : (graph text : List ℕ) → ¬ CanBeRun (both_held graph text) u
graph_missing graph text can = can.graph

graph_too_long : (graph text : List ℕ) → length graph ≡ 4194305 → ¬ CanBeRun (both_held graph text) g
graph_too_long graph text long can = absurd (omega (arith, long, can.graph.0))

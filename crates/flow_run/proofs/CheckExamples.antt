-- What a check of a graph asks for, how it ends and what is written of it, computed on a graph file `g` of one byte.
use Rattle.std.specs.Fmt.{digits}
use Rattle.std.proofs.Common.{◌≡◌, ℕ, List, [], ◌∷◌, ◌++◌, length, Option, Some, None, Ok, Err, inl, inr, refl, sym, ap, subst, ◌∙◌, arith, codes}
use Rattle.std.specs.Prelude.{bytes_eq, if◌then◌else◌, Contains}
use Rattle.std.proofs.lemmas.Option.{none-some}
use Rattle.graph_plans.specs.PlanRows.{GraphRows, PlanRows, graphs_of}
use Rattle.graph_plans.specs.declared.spots.Spot.TheVariants.{File}
use Rattle.graph_drafts.specs.declared.refusals.GraphError.TheVariants.{NotJson}
use Rattle.graph_file.specs.PlanText.{PlanText, IsRefused}
use Rattle.pitfall_check.specs.declared.finding.Finding.{Finding}
use Rattle.pitfall_check.specs.declared.finding.Finding.TheVariants.{NoSource, Mixed, ManyConditions, StrongCycle, NeverReached}
use Rattle.pitfall_check.specs.Findings.{AreFindings}
use Rattle.pitfall_check.specs.Pitfalls.{IsPitfall}
use Rattle.call_status.specs.declared.status.Status.TheVariants.{Done, WriteFault, NoText, NoMemory}
use Rattle.call_status.specs.declared.status.Status.TheVariants as status
use Rattle.call_status.specs.declared.stop.Stop.{Stop}
use Rattle.call_status.specs.declared.stop.Stop.TheVariants as stop
use Rattle.call_status.specs.Statuses.{status_of}
use Rattle.command_line.specs.Requests.{asked_by, check as check_of}
use Rattle.flow_run.specs.declared.conclusion.Conclusion.TheVariants as conclusion
use Rattle.flow_run.specs.declared.conclusion.GraphFindings.{GraphFindings}
use Rattle.flow_run.specs.Requests.{SourceTexts, StopsAtPlan, StopsAtBytes}
use Rattle.flow_run.specs.PlanFiles.{StopsAtFile, StopsBeforePlan, IsAfterConclusion, HoldsPlan}
use Rattle.flow_run.specs.Checks.{AreFindingsOn, AreFindingsOnAll, IsChecked, EndsChecked, CheckEnds, findings_count_line, finding_count, finding_line, findings_text, graph_line, graph_lines, line_start, task_line}
use Rattle.flow_run.specs.Answers.{conclusion_text, output_of, runs_text}
use Rattle.flow_run.proofs.Completing.{one_plan}

abbrev g : List ℕ
g = 0 ∷ []

-- what is held: a byte under `g`
abbrev texts : List ℕ → Option (List ℕ)
texts name = if bytes_eq name g then Some (1 ∷ []) else None

abbrev held : SourceTexts
held = Some texts

abbrev known_length : Option (List ℕ) → ℕ
known_length None = 0
known_length (Some bytes) = length bytes

-- what a source holds under a name, where it says so
abbrev bytes_of : SourceTexts → List ℕ → Option (List ℕ)
bytes_of None name = None
bytes_of (Some text) name = text name

-- Tasks by their names: task 0 is `a` and task 1 is `b`, in the top graph and in a module `m`.
abbrev on_top : List Finding → GraphFindings
on_top findings = record { name = []; names = codes "a" ∷ codes "b" ∷ []; findings = findings }

abbrev on_module : List Finding → GraphFindings
on_module findings = record { name = codes "m"; names = codes "a" ∷ codes "b" ∷ []; findings = findings }

-- How lines begin, and the lines of findings.
start_on_top : line_start [] ≡ []
start_on_top = refl

start_on_a_module : line_start (codes "m") ≡ codes "m: "
start_on_a_module = refl

line_of_a_graph : graph_line (on_module []) (codes "mixed ") (codes "b") ≡ codes "m: mixed b\n"
line_of_a_graph = refl

line_of_a_task : task_line (on_top []) (codes "mixed ") 1 ≡ codes "mixed b\n"
line_of_a_task = refl

no_source_line : finding_line (on_top []) NoSource ≡ codes "no source\n"
no_source_line = refl

mixed_line : finding_line (on_top []) (Mixed 1) ≡ codes "mixed b\n"
mixed_line = refl

many_conditions_line : finding_line (on_top []) (ManyConditions 0) ≡ codes "many conditions a\n"
many_conditions_line = refl

strong_cycle_line : finding_line (on_top []) (StrongCycle 1) ≡ codes "strong cycle b\n"
strong_cycle_line = refl

never_reached_line : finding_line (on_module []) (NeverReached 0) ≡ codes "m: never reached a\n"
never_reached_line = refl

no_source_line_of_a_module : finding_line (on_module []) NoSource ≡ codes "m: no source\n"
no_source_line_of_a_module = refl

task_without_a_name : finding_line (on_top []) (Mixed 2) ≡ codes "mixed \n"
task_without_a_name = refl

lines_of_a_graph : graph_lines (on_module (NoSource ∷ Mixed 0 ∷ [])) ≡ codes "m: no source\nm: mixed a\n"
lines_of_a_graph = refl

-- Two tasks that wait for each other: five findings, and their number behind them.
circle_told : findings_text (on_top (NoSource ∷ StrongCycle 0 ∷ StrongCycle 1 ∷ NeverReached 0 ∷ NeverReached 1 ∷ []) ∷ [])
    ≡ codes "no source\nstrong cycle a\nstrong cycle b\nnever reached a\nnever reached b\nfindings 5\n"
unfolding digits
circle_told = refl

module_told : findings_text (on_top (Mixed 1 ∷ []) ∷ on_module (Mixed 0 ∷ Mixed 1 ∷ []) ∷ []) ≡ codes "mixed b\nm: mixed a\nm: mixed b\nfindings 3\n"
unfolding digits
module_told = refl

found_on_two_graphs : finding_count (on_top (Mixed 1 ∷ []) ∷ on_module (Mixed 0 ∷ Mixed 1 ∷ []) ∷ []) ≡ 3
found_on_two_graphs = refl

nothing_found : findings_text (on_top [] ∷ on_module [] ∷ []) ≡ codes "findings 0\n"
unfolding digits
nothing_found = refl

twelve_found : findings_count_line 12 ≡ codes "findings 12\n"
unfolding digits
twelve_found = refl

abbrev found : List GraphFindings
found = on_top (Mixed 1 ∷ []) ∷ []

findings_told : conclusion_text (Some (conclusion.Findings found)) ≡ codes "mixed b\nfindings 1\n"
unfolding digits
findings_told = refl

output_of_a_check : (arguments : List (List ℕ)) → asked_by arguments ≡ Some (check_of g) → output_of arguments [] (Some (conclusion.Findings found)) ≡ codes "mixed b\nfindings 1\n"
unfolding digits
output_of_a_check arguments asks = ap (λ asked. runs_text asked [] ++ codes "mixed b\nfindings 1\n") asks

-- With findings the status is that of a call without any, unless the output failed or memory ran out.
after_findings : IsAfterConclusion Done × IsAfterConclusion WriteFault × IsAfterConclusion NoMemory
after_findings = (inl refl, inr (inl refl), inr (inr refl))

no_source_told_as_a_status : ¬ IsAfterConclusion (status.NoSource File)
no_source_told_as_a_status (inl same) = absurd (cc)
no_source_told_as_a_status (inr (inl same)) = absurd (cc)
no_source_told_as_a_status (inr (inr same)) = absurd (cc)

-- Bytes that are refused stop a check as they stop a run. A graph without a source stops a run alone.
module _ (bytes : List ℕ) where
  refused_bytes : IsRefused bytes NotJson → StopsAtPlan bytes (stop.BadGraph NotJson) × StopsAtBytes bytes (stop.BadGraph NotJson)
  refused_bytes refused = (refused, refused)

  memory_at_the_bytes : StopsAtPlan bytes stop.NoMemory
  memory_at_the_bytes = tt

  no_source_stops_no_check : ¬ StopsAtPlan bytes (stop.NoSource File)
  no_source_stops_no_check is = is

  no_text_at_the_bytes : ¬ StopsAtPlan bytes (stop.NoText g)
  no_text_at_the_bytes is = is

  plan_is_not_refused : (plan : PlanRows) → PlanText bytes plan → ¬ StopsAtPlan bytes (stop.BadGraph NotJson)
  plan_is_not_refused plan stands is = let both : Ok plan ≡ Err NotJson = sym stands ∙ is in absurd (cc)

missing_file : StopsBeforePlan held (2 ∷ []) (stop.NoText (2 ∷ []))
missing_file = inl (refl, refl)

file_there : ¬ StopsBeforePlan held g (stop.NoText g)
file_there (inl (same, none)) = absurd (none-some (1 ∷ []) (sym none))
file_there (inr at) = at.stops

refused_file : IsRefused (1 ∷ []) NotJson → StopsBeforePlan held g (stop.BadGraph NotJson)
refused_file refused = inr (record { bytes = 1 ∷ []; read = (refl, omega arith); stops = refused })

file_of_a_plan_is_not_refused : (plan : PlanRows) → PlanText (1 ∷ []) plan → ¬ StopsBeforePlan held g (stop.BadGraph NotJson)
file_of_a_plan_is_not_refused plan stands (inl at) = at
file_of_a_plan_is_not_refused plan stands (inr at) =
    let read : Some (1 ∷ []) ≡ Some at.bytes = at.read.0 in
    let bytes : 1 ∷ [] ≡ at.bytes = cc in
    plan_is_not_refused (1 ∷ []) plan stands (subst (λ b. IsRefused b NotJson) (sym bytes) at.stops)

no_source_stops_no_check_of_a_file : ¬ StopsBeforePlan held g (stop.NoSource File)
no_source_stops_no_check_of_a_file (inl at) = at
no_source_stops_no_check_of_a_file (inr at) = at.stops

-- The findings are those on each graph of the plan that the file holds, with its name and those of its tasks.
module _ (plan : PlanRows) (stands : PlanText (1 ∷ []) plan) (no_module : plan.modules ≡ []) (findings : List Finding) (are : AreFindings plan.top.net findings) where
  abbrev told : GraphFindings
  told = record { name = plan.top.name; names = plan.top.names; findings = findings }

  on_the_top_graph : AreFindingsOn plan.top told
  on_the_top_graph = record { name = refl; names = refl; findings = are }

  on_all_graphs : AreFindingsOnAll (graphs_of plan) (told ∷ [])
  on_all_graphs = subst (λ modules. AreFindingsOnAll (plan.top ∷ modules) (told ∷ [])) (sym no_module) (on_the_top_graph, tt)

  checked : IsChecked held g (told ∷ [])
  checked = record { bytes = 1 ∷ []; plan = plan; read = (refl, omega arith); stands = stands; findings = on_all_graphs }

  checked_and_told : EndsChecked held g Done (Some (conclusion.Findings (told ∷ [])))
  checked_and_told = record { found = told ∷ []; only = refl; checked = checked; after = inl refl }

  -- The plan is the one that the file holds.
  same_plan : (found : List GraphFindings) → IsChecked held g found → AreFindingsOnAll (graphs_of plan) found
  same_plan found is =
      let read : Some (1 ∷ []) ≡ Some is.bytes = is.read.0 in
      let bytes : 1 ∷ [] ≡ is.bytes = cc in
      let same = one_plan is.bytes is.plan plan is.stands (subst (λ b. PlanText b plan) bytes stands) in
      subst (λ (p : PlanRows). AreFindingsOnAll (graphs_of p) found) same is.findings

  -- What is found has the names of the graph's tasks and all its pitfalls, and no graph is left out or put in.
  names_of_another_graph : ¬ IsChecked held g (record told { names = codes "z" ∷ plan.top.names } ∷ [])
  names_of_another_graph is =
      let on = subst (λ modules. AreFindingsOnAll (plan.top ∷ modules) (record told { names = codes "z" ∷ plan.top.names } ∷ [])) no_module (same_plan _ is) in
      let names : codes "z" ∷ plan.top.names ≡ plan.top.names = on.0.names in
      absurd (omega (arith, ap length names))

  name_of_another_graph : ¬ IsChecked held g (record told { name = codes "z" ++ plan.top.name } ∷ [])
  name_of_another_graph is = absurd (longer (same_plan _ is))
    where
      longer : AreFindingsOnAll (graphs_of plan) (record told { name = codes "z" ++ plan.top.name } ∷ []) → ⊥
      longer on = let name : codes "z" ++ plan.top.name ≡ plan.top.name = on.0.name in absurd (omega (arith, ap length name))

  no_graph_told : ¬ IsChecked held g []
  no_graph_told is = same_plan [] is

  one_graph_more_told : ¬ IsChecked held g (told ∷ told ∷ [])
  one_graph_more_told is =
      let on = subst (λ modules. AreFindingsOnAll (plan.top ∷ modules) (told ∷ told ∷ [])) no_module (same_plan _ is) in on.1

  told_with_the_names_of_another_graph : ¬ EndsChecked held g Done (Some (conclusion.Findings (record told { names = codes "z" ∷ plan.top.names } ∷ [])))
  told_with_the_names_of_another_graph ended =
      let same : ended.found ≡ record told { names = codes "z" ∷ plan.top.names } ∷ [] = cc in
      names_of_another_graph (subst (IsChecked held g) same ended.checked)

  pitfall_left_out : IsPitfall plan.top.net (Mixed 1) → ¬ IsChecked held g (record told { findings = [] } ∷ [])
  pitfall_left_out mixed is = left_out (same_plan _ is)
    where
      not_in_nothing : ¬ Contains [] (Mixed 1)
      not_in_nothing is = absurd (omega arith)

      left_out : ¬ AreFindingsOnAll (graphs_of plan) (record told { findings = [] } ∷ [])
      left_out on = not_in_nothing ((on.0.findings.exact (Mixed 1)).1 mixed)

  told_as_another_status : ¬ EndsChecked held g (status.NoSource File) (Some (conclusion.Findings (told ∷ [])))
  told_as_another_status ended = no_source_told_as_a_status ended.after

  at_hand : HoldsPlan texts g
  at_hand = record { plan = plan; graph = (omega arith, stands) }

graph_left_out : (graph : GraphRows) → ¬ AreFindingsOnAll (graph ∷ []) []
graph_left_out graph is = is

graph_put_in : (on : GraphFindings) → ¬ AreFindingsOnAll [] (on ∷ [])
graph_put_in on is = is

no_graphs : AreFindingsOnAll [] []
no_graphs = tt

plan_of_a_missing_file : (found : List GraphFindings) → ¬ IsChecked held (2 ∷ []) found
plan_of_a_missing_file found is = let never : None ≡ Some is.bytes = is.read.0 in absurd (cc)

-- An end before the findings has none, and isn't done.
done_without_findings : ¬ CheckEnds held g Done None
done_without_findings (inl stopped) = never stopped.why stopped.reported
  where
    never : (why : Stop) → ¬ (Done ≡ status_of why)
    never (stop.BadGraph error) same = absurd (cc)
    never (stop.NoSource spot) same = absurd (cc)
    never (stop.NoText name) same = absurd (cc)
    never (stop.LongText name) same = absurd (cc)
    never (stop.ReadFault name) same = absurd (cc)
    never (stop.BadJournal line) same = absurd (cc)
    never stop.NoMemory same = absurd (cc)
done_without_findings (inr ended) = let only : None ≡ Some (conclusion.Findings ended.found) = ended.only in absurd (cc)

-- A file that is longer than is read stops the call, and isn't at hand; its bytes are not looked at.
module _ (bytes : List ℕ) (long : length bytes ≡ 4194305) where
  abbrev too_long : SourceTexts
  too_long = Some (λ name. Some bytes)

  long_file : StopsBeforePlan too_long g (stop.LongText g)
  long_file = inl (refl, omega (arith, long))

  long_file_is_not_read : ¬ StopsAtFile too_long g stop.NoMemory
  long_file_is_not_read at = let same : Some bytes ≡ Some at.bytes = at.read.0 in absurd (omega (arith, long, ap known_length same, at.read.1))

  long_file_is_not_checked : (findings : List GraphFindings) → ¬ IsChecked too_long g findings
  long_file_is_not_checked findings is = let same : Some bytes ≡ Some is.bytes = is.read.0 in absurd (omega (arith, long, ap known_length same, is.read.1))

  long_file_is_not_at_hand : ¬ HoldsPlan (λ name. Some bytes) g
  long_file_is_not_at_hand can = absurd (omega (arith, long, can.graph.0))

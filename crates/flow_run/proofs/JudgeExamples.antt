-- What a judgement asks for and how it ends, computed on a graph file `g` of one byte and a journal file `j`.
use Rattle.std.specs.Fmt.{digits}
use Rattle.std.proofs.Common.{◌≡◌, ℕ, ◌*◌, List, [], ◌∷◌, ◌++◌, length, Option, Some, None, true, false, inl, inr, refl, arith, codes, ap, sym, subst, ◌∙◌, Result, Ok, Err}
use Rattle.std.specs.Prelude.{bytes_eq, if◌then◌else◌}
use Rattle.task_graph.specs.NetRows.{NetRows}
use Rattle.graph_plans.specs.PlanRows.{PlanRows}
use Rattle.graph_drafts.specs.declared.refusals.GraphError.{GraphError}
use Rattle.graph_drafts.specs.declared.refusals.GraphError.TheVariants.{NotJson}
use Rattle.graph_file.specs.PlanText.{PlanText, IsRefused}
use Rattle.journal_rules.specs.Complete.{Complete}
use Rattle.journal_rules.specs.declared.entry.Cause.TheVariants.{Source}
use Rattle.journal_rules.specs.declared.entry.Entry.{Entry}
use Rattle.journal_rules.specs.declared.entry.Entry.TheVariants.{Start}
use Rattle.legal_run.specs.declared.verdict.Break.{Break}
use Rattle.legal_run.specs.declared.verdict.Break.TheVariants.{NoSuch, AfterStuck, NotReleased, OverUnits, OverLimit, NotOpen, NotChosen, NothingOut, NotOver, NotHalted, NotStuck}
use Rattle.legal_run.specs.declared.verdict.Verdict.{Verdict}
use Rattle.legal_run.specs.declared.verdict.Verdict.TheVariants.{Complete as Finished, Legal, Breaks}
use Rattle.legal_run.specs.Verdict.{IsVerdict}
use Rattle.journal_text.specs.declared.version.Version.TheVariants.{Two}
use Rattle.journal_text.specs.JournalText.{IsJournalText}
use Rattle.journal_text.specs.inside.Reading.{version_at}
use Rattle.journal_text.proofs.TextLemmas.{no_first_line, one_journal}
use Rattle.command_line.specs.Requests.{asked_by, once, run as run_of, judge as judge_of}
use Rattle.call_status.specs.declared.status.Status.{Status}
use Rattle.call_status.specs.declared.status.Status.TheVariants.{Done, WriteFault, NoText, NotLegal, NoMemory}
use Rattle.call_status.specs.declared.stop.Stop.{Stop}
use Rattle.call_status.specs.declared.stop.Stop.TheVariants as stop
use Rattle.flow_run.specs.Requests.{SourceTexts, HasPlan, HasStart}
use Rattle.call_status.specs.Statuses.{status_of}
use Rattle.call_status.specs.Stopping.{StoppedBefore}
use Rattle.flow_run.specs.declared.conclusion.Conclusion.TheVariants as conclusion
use Rattle.flow_run.specs.Judgements.{HasJournal, StopsAtJournalBytes, StopsAtJournal, StopsBeforeVerdict, IsJudged, IsAfterVerdict, EndsJudged, JudgeEnds, CanBeJudged, break_text, verdict_line, journal_limit}
use Rattle.flow_run.proofs.RoundLemmas.{no_runs_text}
use Rattle.flow_run.specs.Answers.{TextRun, conclusion_text, output_of, runs_text}
use Rattle.flow_run.specs.RoundTexts.{rounds_text}

abbrev g : List ℕ
g = 0 ∷ []

abbrev j : List ℕ
j = 1 ∷ []

-- what is held: a byte under `g`, and the text of the empty journal under `j`
abbrev texts : List ℕ → Option (List ℕ)
texts name = if bytes_eq name g then Some (1 ∷ []) else (if bytes_eq name j then Some (codes "flow journal 2\n") else None)

abbrev held : SourceTexts
held = Some texts

-- The lines of verdicts.
finished_line : verdict_line Finished ≡ codes "complete\n"
finished_line = refl

legal_line : verdict_line Legal ≡ codes "legal\n"
legal_line = refl

breaks_line : verdict_line (Breaks 12 NotReleased) ≡ codes "breaks at 12: not released\n"
unfolding digits
breaks_line = refl

breaks_at_a_semaphore : verdict_line (Breaks 0 (OverUnits 3)) ≡ codes "breaks at 0: over units 3\n"
unfolding digits
breaks_at_a_semaphore = refl

nothing_told : conclusion_text None ≡ []
nothing_told = refl

verdict_told : conclusion_text (Some (conclusion.Verdict Legal)) ≡ codes "legal\n"
verdict_told = refl

-- What an entry is told to break.
no_such : break_text NoSuch ≡ codes "no such number"
no_such = refl

after_stuck : break_text AfterStuck ≡ codes "after stuck"
after_stuck = refl

over_limit : break_text OverLimit ≡ codes "over limit"
over_limit = refl

not_open : break_text NotOpen ≡ codes "not open"
not_open = refl

not_chosen : break_text NotChosen ≡ codes "not chosen"
not_chosen = refl

nothing_out : break_text (NothingOut 10) ≡ codes "nothing out 10"
unfolding digits
nothing_out = refl

not_over : break_text NotOver ≡ codes "not over"
not_over = refl

not_halted : break_text NotHalted ≡ codes "not halted"
not_halted = refl

not_stuck : break_text NotStuck ≡ codes "not stuck"
not_stuck = refl

-- A break is told before a line that couldn't be written, and isn't called done.
break_told : IsAfterVerdict (Breaks 4 NotOpen) (NotLegal 4 NotOpen)
break_told = inl refl

failed_line : IsAfterVerdict Legal WriteFault
failed_line = inr (inl (refl, refl))

line_without_memory : IsAfterVerdict (Breaks 4 NotOpen) NoMemory
line_without_memory = inr (inr refl)

break_hidden_by_the_output : ¬ IsAfterVerdict (Breaks 4 NotOpen) WriteFault
break_hidden_by_the_output (inl same) = absurd (cc)
break_hidden_by_the_output (inr (inl (also, same))) = absurd (cc)
break_hidden_by_the_output (inr (inr same)) = absurd (cc)

break_called_done : ¬ IsAfterVerdict (Breaks 4 NotOpen) Done
break_called_done (inl same) = absurd (cc)
break_called_done (inr (inl (also, same))) = absurd (cc)
break_called_done (inr (inr same)) = absurd (cc)

abbrev place_of : Status → ℕ
place_of (NotLegal place why) = place
place_of status = 0

another_place_told : ¬ IsAfterVerdict (Breaks 4 NotOpen) (NotLegal 5 NotOpen)
another_place_told (inl same) = absurd (omega (arith, ap place_of same))
another_place_told (inr (inl (also, same))) = absurd (cc)
another_place_told (inr (inr same)) = absurd (cc)

legal_called_broken : ¬ IsAfterVerdict Legal (NotLegal 0 NotOpen)
legal_called_broken (inl same) = absurd (cc)
legal_called_broken (inr (inl (also, same))) = absurd (cc)
legal_called_broken (inr (inr same)) = absurd (cc)

-- The journal that is held.
empty_journal : HasJournal held j []
empty_journal = record { bytes = codes "flow journal 2\n"; read = (refl, omega arith); stands = record { version = Two; lines = tt; text = refl } }

no_journal_there : (journal : List Entry) → ¬ HasJournal held (2 ∷ []) journal
no_journal_there journal is = let never : None ≡ Some is.bytes = is.read.0 in absurd (cc)

-- What stops at a journal's bytes: a bad line, want of memory, and nothing else.
text_called_bad : (line : ℕ) → ¬ StopsAtJournalBytes (codes "flow journal 2\n") (stop.BadJournal line)
text_called_bad line is = is.no_text [] (record { version = Two; lines = tt; text = refl })

memory_at_the_journal : StopsAtJournalBytes [] stop.NoMemory
memory_at_the_journal = tt

journal_called_missing : ¬ StopsAtJournalBytes [] (stop.NoText j)
journal_called_missing is = is

-- A journal file that isn't there stops behind a graph; one that is there doesn't.
module _ (plan : PlanRows) (has : HasPlan held g plan) where
  missing_journal : StopsBeforeVerdict held g (2 ∷ []) (stop.NoText (2 ∷ []))
  missing_journal = inr (inr (record { plan = plan; has = has; stops = inl (refl, refl) }))

journal_there : ¬ StopsAtJournal held j (stop.NoText j)
journal_there (inl (same, none)) = let never : Some (codes "flow journal 2\n") ≡ None = none in absurd (cc)
journal_there (inr at) = at.stops

-- An end before the verdict has none, and isn't done.
verdict_before_the_end : ¬ StoppedBefore (StopsBeforeVerdict held g j) (NoText j) (Some (conclusion.Verdict Legal) ≡ None)
verdict_before_the_end is = absurd (let none : Some (conclusion.Verdict Legal) ≡ None = is.none in cc)

done_without_a_verdict : ¬ JudgeEnds held g j 9 Done None
done_without_a_verdict (inl stopped) = never stopped.why stopped.reported
  where
    never : (why : Stop) → ¬ (Done ≡ status_of why)
    never (stop.BadGraph error) same = absurd (cc)
    never (stop.NoSource spot) same = absurd (cc)
    never (stop.NoText name) same = absurd (cc)
    never (stop.LongText name) same = absurd (cc)
    never (stop.ReadFault name) same = absurd (cc)
    never (stop.BadJournal line) same = absurd (cc)
    never stop.NoMemory same = absurd (cc)
done_without_a_verdict (inr ended) = let only : None ≡ Some (conclusion.Verdict ended.verdict) = ended.only in absurd (cc)

verdict_that_is_another : (is : IsJudged held g j 9 Legal) → ¬ EndsJudged held g j 9 (NotLegal 0 NotOpen) (Some (conclusion.Verdict Legal))
verdict_that_is_another is ended = let same : ended.verdict ≡ Legal = cc in legal_called_broken (subst (λ (v : Verdict). IsAfterVerdict v (NotLegal 0 NotOpen)) same ended.after)

-- What is written: of runs their reports or their journals, of a judgement the verdict's line.
output_of_a_judgement : (arguments : List (List ℕ)) → asked_by arguments ≡ Some (judge_of g j 9) → output_of arguments [] (Some (conclusion.Verdict Legal)) ≡ codes "legal\n"
output_of_a_judgement arguments asks = ap (λ asked. runs_text asked [] ++ codes "legal\n") asks

-- of a run its journal, where that is asked for, and its report else; before what is concluded
output_with_the_journal : (arguments : List (List ℕ)) (run : TextRun) → asked_by arguments ≡ Some (run_of g 9 4 once true) → output_of arguments (run ∷ []) (Some (conclusion.Verdict Legal)) ≡ rounds_text once true (run ∷ []) ++ codes "legal\n"
output_with_the_journal arguments run asks = ap (λ asked. runs_text asked (run ∷ []) ++ codes "legal\n") asks

output_with_the_report : (arguments : List (List ℕ)) (run : TextRun) → asked_by arguments ≡ Some (run_of g 9 4 once false) → output_of arguments (run ∷ []) None ≡ rounds_text once false (run ∷ []) ++ []
output_with_the_report arguments run asks = ap (λ asked. runs_text asked (run ∷ []) ++ []) asks

output_of_nothing : (arguments : List (List ℕ)) → output_of arguments [] None ≡ []
output_of_nothing arguments = ap (λ bytes. bytes ++ []) (no_runs_text (asked_by arguments))

-- The most bytes of a journal file: 64 MiB.
journal_bytes : journal_limit ≡ 64 * 1024 * 1024
journal_bytes = refl

-- ---- what is judged

-- the same, with another text under `j`
abbrev texts_with : List ℕ → List ℕ → Option (List ℕ)
texts_with bytes name = if bytes_eq name g then Some (1 ∷ []) else (if bytes_eq name j then Some bytes else None)

abbrev held_with : List ℕ → SourceTexts
held_with bytes = Some (texts_with bytes)

-- and with any graph under `g`
abbrev held_over : List ℕ → List ℕ → SourceTexts
held_over graph bytes = Some (λ name. if bytes_eq name g then Some graph else (if bytes_eq name j then Some bytes else None))

-- a journal of one start, and its text
abbrev started : List Entry
started = Start 0 Source [] ∷ []

abbrev one_start : List ℕ
one_start = codes "flow journal 2\nstart 0 source -\n"

one_start_is_text : IsJournalText started one_start
unfolding digits
one_start_is_text = record { version = Two; lines = ((omega arith, tt, tt), tt); text = refl }

abbrev ok_plan : PlanRows → Result PlanRows GraphError
ok_plan plan = Ok plan

abbrev length_of : Option (List ℕ) → ℕ
length_of None = 0
length_of (Some bytes) = length bytes

no_journal_over_its_limit : (bytes : List ℕ) (journal : List Entry) → length bytes ≡ 67108865 → ¬ HasJournal (held_with bytes) j journal
no_journal_over_its_limit bytes journal long is = let same : Some bytes ≡ Some is.bytes = is.read.0 in absurd (omega (arith, long, ap length_of same, is.read.1))

journal_of_the_most_bytes : (bytes : List ℕ) (journal : List Entry) → length bytes ≡ 67108864 → IsJournalText journal bytes → HasJournal (held_with bytes) j journal
journal_of_the_most_bytes bytes journal long stands = record { bytes = bytes; read = (refl, omega (arith, long)); stands = stands }

-- An empty journal has no entry that breaks a rule.
nothing_breaks : (net : NetRows) (limit place : ℕ) (why : Break) → ¬ IsVerdict net limit [] (Breaks place why)
nothing_breaks net limit place why is = is.1

-- the journal that one start's text stands for
the_start : (graph : List ℕ) {journal : List Entry} → HasJournal (held_over graph one_start) j journal → journal ≡ started
the_start graph {journal} is =
    let same : Some one_start ≡ Some is.bytes = is.read.0 in
    let bytes : one_start ≡ is.bytes = cc in
    one_journal journal started one_start (subst (IsJournalText journal) (sym bytes) is.stands) one_start_is_text

the_empty : {journal : List Entry} → HasJournal held j journal → journal ≡ []
the_empty {journal} is =
    let same : Some (codes "flow journal 2\n") ≡ Some is.bytes = is.read.0 in
    let bytes : codes "flow journal 2\n" ≡ is.bytes = cc in
    one_journal journal [] (codes "flow journal 2\n") (subst (IsJournalText journal) (sym bytes) is.stands) (record { version = Two; lines = tt; text = refl })

-- The journal behind the one name is judged by the graph behind the other, and by the limit.
break_of_an_empty_journal : (why : Break) → ¬ IsJudged held g j 9 (Breaks 0 why)
break_of_an_empty_journal why is = nothing_breaks is.plan.top.net 9 0 why (subst (λ journal. IsVerdict is.plan.top.net 9 journal (Breaks 0 why)) (the_empty is.text) is.is)

start_beyond_the_limit : (graph : List ℕ) → ¬ IsJudged (held_over graph one_start) g j 0 Legal
start_beyond_the_limit graph is =
    let verdict : IsVerdict is.plan.top.net 0 started Legal = subst (λ journal. IsVerdict is.plan.top.net 0 journal Legal) (the_start graph is.text) is.is in
    absurd (omega (arith, verdict.0.0.halt_limit_stuck.dropped))

judged_by_no_graph : ¬ IsJudged held (2 ∷ []) j 9 Legal
judged_by_no_graph is = let none : None ≡ Some is.graph.bytes = is.graph.read.0 in absurd (cc)

judged_without_a_journal : ¬ IsJudged held g (2 ∷ []) 9 Legal
judged_without_a_journal is = no_journal_there is.journal is.text

module _ (plan : PlanRows) (stands : PlanText (1 ∷ []) plan) (source : HasStart plan) where
  has_graph : HasPlan held g plan
  has_graph = record { bytes = 1 ∷ []; read = (refl, omega arith); stands = stands; source = source }

  judged_unfinished : ¬ Complete plan.top.net 9 [] → IsJudged held g j 9 Legal
  judged_unfinished unfinished = record { plan = plan; graph = has_graph; journal = []; text = empty_journal; is = (tt, unfinished) }

  judged_finished : Complete plan.top.net 9 [] → IsJudged held g j 9 Finished
  judged_finished finished = record { plan = plan; graph = has_graph; journal = []; text = empty_journal; is = (tt, finished) }

  the_plan : {other : PlanRows} → PlanText (1 ∷ []) other → other ≡ plan
  the_plan {other} is = let both : ok_plan other ≡ ok_plan plan = sym is ∙ stands in cc

  another_verdict : Complete plan.top.net 9 [] → ¬ IsJudged held g j 9 Legal
  another_verdict finished is =
      let same : Some (1 ∷ []) ≡ Some is.graph.bytes = is.graph.read.0 in
      let bytes : 1 ∷ [] ≡ is.graph.bytes = cc in
      let verdict : IsVerdict is.plan.top.net 9 [] Legal = subst (λ journal. IsVerdict is.plan.top.net 9 journal Legal) (the_empty is.text) is.is in
      verdict.1 (subst (λ (other : PlanRows). Complete other.top.net 9 []) (sym (the_plan (subst (λ read. PlanText read is.plan) (sym bytes) is.graph.stands))) finished)

  -- A call that judged ends with the verdict, and tells it.
  ends_judged : ¬ Complete plan.top.net 9 [] → JudgeEnds held g j 9 Done (Some (conclusion.Verdict Legal))
  ends_judged unfinished = inr (record { verdict = Legal; only = refl; judged = judged_unfinished unfinished; after = inl refl })

  -- A bad line of the journal stops behind the graph.
  bad_journal_behind_a_graph : StopsBeforeVerdict (held_with []) g j (stop.BadJournal 1)
  unfolding version_at
  bad_journal_behind_a_graph = inr (inr (record {
    plan = plan;
    has = record { bytes = 1 ∷ []; read = (refl, omega arith); stands = stands; source = source };
    stops = inr (record { bytes = []; read = (refl, omega arith); stops = no_first_line [] refl });
  }))

  -- What is asked to be judged can be: an empty journal by this graph.
  can_be_judged : CanBeJudged texts g j 9
  can_be_judged = record {
    plan = plan;
    journal = [];
    graph = (omega arith, stands);
    source = source;
    trace = (omega arith, record { version = Two; lines = tt; text = refl });
    stands = nothing_breaks plan.top.net 9;
  }

-- A verdict that isn't that of what is held isn't told.
ends_judged_by_no_graph : ¬ EndsJudged held (2 ∷ []) j 9 Done (Some (conclusion.Verdict Legal))
ends_judged_by_no_graph is = let none : None ≡ Some is.judged.graph.bytes = is.judged.graph.read.0 in absurd (cc)

-- Where the graph file is refused, the journal file isn't why the call stops.
journal_behind_a_refused_graph : IsRefused (1 ∷ []) NotJson → ¬ StopsBeforeVerdict held g (2 ∷ []) (stop.NoText (2 ∷ []))
journal_behind_a_refused_graph refused (inl (same, none)) = absurd (cc)
journal_behind_a_refused_graph refused (inr (inl at)) = at.stops
journal_behind_a_refused_graph refused (inr (inr behind)) =
    let same : Some (1 ∷ []) ≡ Some behind.has.bytes = behind.has.read.0 in
    let bytes : 1 ∷ [] ≡ behind.has.bytes = cc in
    let both : ok_plan behind.plan ≡ Err NotJson = sym (subst (λ read. PlanText read behind.plan) (sym bytes) behind.has.stands) ∙ refused in
    absurd (cc)

-- It can't be judged without the graph, without the journal, where one of them is too long, by a graph that can't
-- begin, and where an entry breaks a rule.
no_graph_to_judge_by : ¬ CanBeJudged texts (2 ∷ []) j 9
no_graph_to_judge_by can = can.graph

no_journal_to_judge : ¬ CanBeJudged texts g (2 ∷ []) 9
no_journal_to_judge can = can.trace

graph_too_long_to_judge_by : (bytes : List ℕ) → length bytes ≡ 4194305 → ¬ CanBeJudged (texts_with bytes) j g 9
graph_too_long_to_judge_by bytes long can = absurd (omega (arith, long, can.graph.0))

journal_too_long_to_judge : (bytes : List ℕ) → length bytes ≡ 67108865 → ¬ CanBeJudged (texts_with bytes) g j 9
journal_too_long_to_judge bytes long can = absurd (omega (arith, long, can.trace.0))

module _ (plan : PlanRows) (stands : PlanText (1 ∷ []) plan) where
  graph_that_can_not_begin : ¬ HasStart plan → ¬ CanBeJudged texts g j 9
  graph_that_can_not_begin none can =
      let both : ok_plan can.plan ≡ ok_plan plan = sym can.graph.1 ∙ stands in
      let same : can.plan ≡ plan = cc in
      none (subst HasStart same can.source)

  journal_that_breaks : IsVerdict plan.top.net 9 started (Breaks 0 NotReleased) → ¬ CanBeJudged (texts_with one_start) g j 9
  journal_that_breaks breaks can =
      let both : ok_plan can.plan ≡ ok_plan plan = sym can.graph.1 ∙ stands in
      let same : can.plan ≡ plan = cc in
      let journal : can.journal ≡ started = one_journal can.journal started one_start can.trace.1 one_start_is_text in
      can.stands 0 NotReleased
      (subst (λ entries. IsVerdict can.plan.top.net 9 entries (Breaks 0 NotReleased)) (sym journal)
      (subst (λ (p : PlanRows). IsVerdict p.top.net 9 started (Breaks 0 NotReleased)) (sym same) breaks))

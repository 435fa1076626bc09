-- In a fine run of a plan without conditions each task has a start and an end if it has a value by one thread, else
-- neither, and no fault and no drop; so the rows of a profile are those that one thread works out.
use Rattle.std.proofs.Common.{◌≡◌, ℕ, ◌+◌, ◌<◌, ◌≤◌, ◌==◌, Bool, true, false, cond, List, [], ◌∷◌, length, map, get_or, Option, Some, None, is_some, count_by, filter, refl, sym, ap, ◌∙◌, subst, arith}
use Rattle.std.specs.Prelude.{All, slice_get}
use Rattle.std.specs.List.{flat_map}
use Rattle.std.specs.Option.{option_map_or}
use Rattle.std.proofs.lemmas.List.Elements.{All-head, All-tail}
use Rattle.std.proofs.lemmas.List.Sums.{sum_by-cons}
use Rattle.std.proofs.lemmas.Option.{slice_get_within, slice_get-get_or}
use Rattle.task_graph.specs.NetRows.{NetRows}
use Rattle.task_graph.specs.declared.net.EdgeRow.{EdgeRow}
use Rattle.journal_rules.specs.Counts.{start_at}
use Rattle.journal_rules.specs.declared.entry.Entry.{Entry}
use Rattle.journal_rules.specs.declared.entry.Entry.TheVariants.{Start, End, Fault, Drop}
use Rattle.nested_runs.specs.Reasons.{run_reason}
use Rattle.nested_runs.specs.declared.reasons.Reason.TheVariants.{Fine}
use Rattle.profile_table.proofs.CountingLemmas.{kind_counts-append}
use Rattle.profile_table.specs.Profiles.{is_of_task, kind_counts, profile_row, profile_rows, row_plus, task_entries}
use Rattle.profile_table.specs.declared.row.TableRow.{TableRow}
use Rattle.run_frame.specs.Legal.{IsKept, LegalJournal}
use Rattle.run_frame.specs.Meaning.{Meaning}
use Rattle.run_frame.specs.NestedRule.{job_of, journal_of}
use Rattle.run_frame.specs.Runs.{IsFine, values_of}
use Rattle.run_frame.specs.declared.run.FrameRun.{FrameRun}
use Rattle.text_tasks.specs.JobMeaning.{names_of, net_of, text_job}
use Rattle.text_tasks.specs.GraphWork.{graph_in, graph_of}
use Rattle.text_tasks.specs.declared.job.TextJob.{TextJob}
use Rattle.text_tasks.specs.declared.job.TextJob.TheVariants.{Graph, Parts, Pipe}
use Rattle.graph_plans.specs.PlanRows.{GraphRows}
use Rattle.command_line.specs.Requests.{AskedRounds}
use Rattle.nested_runs.specs.Rounds.{AreAllRounds}
use Rattle.run_laws.specs.Laws.{IsGraphRun}
use Rattle.run_laws.specs.OneThreadValue.{OneAnswer, TaskEnd, one_thread_value, source_of}
use Rattle.run_laws.specs.PlainJobs.{IsGraphJob, last_of, plain_value}
use Rattle.run_laws.specs.TextAnswers.{IsPlanned}
use Rattle.report_laws.specs.PlainReport.{IsPlainJob, greatest_depth, text_answer, text_plain}
use Rattle.run_laws.proofs.Along.{both, weaker}
use Rattle.run_laws.proofs.Depth.{allows_plain, graph_run}
use Rattle.run_laws.proofs.LastEnds.{map_below}
use Rattle.run_laws.proofs.Legally.{Given, kept_all}
use Rattle.run_laws.proofs.Once.{begun_once, steady_once}
use Rattle.run_laws.proofs.Phases.{begins, ends_one, stops_one}
use Rattle.run_laws.proofs.Reasons.{reason_counts}
use Rattle.run_laws.proofs.Report.{is_decided}
use Rattle.run_laws.proofs.Runs.{legal_journal, one_end}
use Rattle.run_laws.proofs.Steps.{ends_in, starts_in}
use Rattle.report_laws.proofs.TextPlain.{plain_to, text_plainly}
use Rattle.run_laws.proofs.Values.{Ran}
use Rattle.run_laws.proofs.Whole.{Finished, all_ended, unstopped}
use Rattle.flow_run.specs.PlainProfiles.{plain_row, plain_rows, times_valued}
use Rattle.flow_run.specs.PlainRounds.{plain_jobs}
use Rattle.flow_run.specs.RoundTexts.{TextRun, last_reason, round_rule}
use Rattle.flow_run.proofs.PlainRounds.{follows_plain, plain_rounds_all_fine, plain_rounds_jobs}
use Rattle.flow_run.proofs.RoundLemmas.{follows_planned, rounds_keep}

abbrev one_if : Bool → ℕ
one_if b = cond b 1 0

abbrev row_of : ℕ → ℕ → TableRow
row_of starts ends = record { starts = starts; ends = ends; faults = 0; drops = 0 }

-- ---- the entries of a task in a journal

module _ (h : List Entry) (t : ℕ) where
  abbrev at : ℕ → Option ℕ
  at = start_at h

  -- the row of the task, of some of the journal's entries
  abbrev counted : List Entry → TableRow
  counted b = kind_counts (filter (is_of_task h t) b)

  -- with one entry more
  one_more : (x : Entry) (b : List Entry) → counted (x ∷ b) ≡ cond (is_of_task h t x) (row_plus (kind_counts (x ∷ [])) (counted b)) (counted b)
  one_more x b = by_test (is_of_task h t x)
    where
      by_test : (own : Bool) → kind_counts (cond own (x ∷ filter (is_of_task h t) b) (filter (is_of_task h t) b)) ≡ cond own (row_plus (kind_counts (x ∷ [])) (counted b)) (counted b)
      by_test true = kind_counts-append (x ∷ []) (filter (is_of_task h t) b)
      by_test false = refl

  same_row : (a b c d : ℕ) → a ≡ c → b ≡ d → row_of a b ≡ row_of c d
  same_row a b c d starts ends = ap (λ n. row_of n b) starts ∙ ap (row_of c) ends

  -- where nothing stops the task, it has Starts and Ends alone
  counted_all : (b : List Entry) → count_by (stops_one at t) b ≡ 0 → counted b ≡ row_of (count_by (begins t) b) (count_by (ends_one at t) b)
  counted_all [] none = refl
  counted_all (x ∷ b) none =
      let rest : count_by (stops_one at t) b ≡ 0 = omega (arith, none, sum_by-cons (λ y. one_if (stops_one at t y)) x b) in
      let here : one_if (stops_one at t x) ≡ 0 = omega (arith, none, sum_by-cons (λ y. one_if (stops_one at t y)) x b) in
      one_more x b
      ∙ ap (λ r. cond (is_of_task h t x) (row_plus (kind_counts (x ∷ [])) r) r) (counted_all b rest)
      ∙ by_entry x here (count_by (begins t) b) (count_by (ends_one at t) b)
      ∙ same_row _ _ _ _ (sym (sum_by-cons (λ y. one_if (begins t y)) x b)) (sym (sum_by-cons (λ y. one_if (ends_one at t y)) x b))
    where
      of_start : (own : Bool) (s e : ℕ) → cond own (row_plus (row_of 1 0) (row_of s e)) (row_of s e) ≡ row_of (one_if own + s) (0 + e)
      of_start true s e = refl
      of_start false s e = same_row s e (0 + s) (0 + e) (omega arith) (omega arith)

      of_end : (own : Bool) (s e : ℕ) → cond own (row_plus (row_of 0 1) (row_of s e)) (row_of s e) ≡ row_of (0 + s) (one_if own + e)
      of_end true s e = refl
      of_end false s e = same_row s e (0 + s) (0 + e) (omega arith) (omega arith)

      of_none : (own : Bool) (r : TableRow) (s e : ℕ) → one_if own ≡ 0 → cond own r (row_of s e) ≡ row_of (0 + s) (0 + e)
      of_none true r s e is = absurd (omega (arith, is))
      of_none false r s e is = same_row s e (0 + s) (0 + e) (omega arith) (omega arith)

      by_entry : (y : Entry) → one_if (stops_one at t y) ≡ 0 → (s e : ℕ)
          → cond (is_of_task h t y) (row_plus (kind_counts (y ∷ [])) (row_of s e)) (row_of s e) ≡ row_of (one_if (begins t y) + s) (one_if (ends_one at t y) + e)
      by_entry (Start task cause ins) none s e = of_start (task == t) s e
      by_entry (End start gives inner) none s e = of_end (option_map_or (λ task. task == t) (at start) false) s e
      by_entry (Fault start why) none s e = of_none (option_map_or (λ task. task == t) (at start) false) _ s e none
      by_entry (Drop task cause why) none s e = of_none (task == t) _ s e none

-- ---- a fine run of a graph without conditions

-- at most one value is the last one, if there is one
one_value : {V : Type 0} (us : List (TaskEnd V)) → length us ≤ 1 → length us ≡ one_if (is_some (last_of us))
one_value [] few = refl
one_value (u ∷ []) few = refl
one_value (u ∷ w ∷ us) few = absurd (omega (arith, few))

module _ {J V : Type 0} (meaning : Meaning J V) (run : FrameRun J V) (one : OneAnswer V) (is : IsGraphRun meaning run one) (fine : IsFine (journal_of run)) where
  abbrev net : NetRows
  net = meaning.net (job_of run)

  abbrev limit : ℕ
  limit = meaning.limit (job_of run)

  abbrev h : List Entry
  h = journal_of run

  given : Given net limit one (values_of run) h
  given =
      let journal : LegalJournal meaning run = legal_journal meaning run is.legal in
      record {
        strong = is.once.strong;
        shape = journal.shape;
        found = journal.found;
        steady = steady_once net limit h is.once journal.shape;
        one_ends = weaker _ _ (λ b x rules. one_end meaning run one is.one_answer is.legal b x rules.0 rules.1) [] h (both _ _ [] h journal.work journal.nested);
      }

  module _ (t : ℕ) (below : t < length net.tasks) where
    -- the source of an edge is a task
    sources_in : (e : ℕ) → source_of net e < length net.tasks
    sources_in e = by_row (slice_get net.edges e) refl
      where
        by_row : (o : Option EdgeRow) → slice_get net.edges e ≡ o → source_of net e < length net.tasks
        by_row None none = let zeroth : source_of net e ≡ 0 = ap (λ o. option_map_or (λ (r : EdgeRow). r.from) o 0) none in omega (arith, zeroth, below)
        by_row (Some row) some =
            let inside : e < length net.edges = slice_get_within net.edges e row some in
            let there : source_of net e ≡ (get_or net.edges e row).from = ap (λ o. option_map_or (λ (r : EdgeRow). r.from) o 0) (slice_get-get_or net.edges e row inside) in
            omega (arith, there, (is.net.edges e row inside).from_in_range)

    finished : Finished net limit h
    finished = record { complete = is.complete; fine = fine; sources_in = sources_in }

    ran : Ran net one (values_of run) (start_at h) t h (starts_in (values_of run) t h) (ends_in (values_of run) (start_at h) t h)
    ran = (kept_all net limit one (values_of run) h given).1.ran t

    as_many : count_by (begins t) h ≡ count_by (ends_one (start_at h) t) h
    as_many = sym ran.begun ∙ sym (all_ended net limit one (values_of run) h given finished t) ∙ ran.ended

    -- it has an End for each of its values by one thread,
    valued : count_by (ends_one (start_at h) t) h ≡ length (one_thread_value net one (length net.tasks) t)
    valued = sym ran.ended ∙ ap length ((is_decided meaning run one is).values fine t below)

    ended_if : count_by (ends_one (start_at h) t) h ≡ one_if (is_some (plain_value net one t))
    ended_if =
        let once : count_by (begins t) h ≤ 1 = begun_once net limit h is.once given.shape t in
        valued ∙ one_value (one_thread_value net one (length net.tasks) t) (omega (arith, once, as_many, valued))

    -- and as many Starts, and no Fault and no Drop.
    pub fine_row : kind_counts (task_entries t h) ≡ row_of (one_if (is_some (plain_value net one t))) (one_if (is_some (plain_value net one t)))
    fine_row = counted_all h t h (unstopped net limit h given.shape fine t) ∙ ap (λ n. row_of n (count_by (ends_one (start_at h) t) h)) (as_many ∙ ended_if) ∙ ap (row_of (one_if (is_some (plain_value net one t)))) ended_if

-- ---- rounds of a plan without conditions

-- whether a task of a job has a value by one thread
abbrev has_value : ℕ → TextJob → Bool
has_value t job = is_some (plain_value (net_of job) (text_answer job) t)

-- a job of a plan without conditions whose graph's tasks have these names
record IsOfPlan (names : List (List ℕ)) (job : TextJob) : Type 0 where
  plain : IsPlainJob job
  planned : IsPlanned job
  same_names : names_of job ≡ names

-- So is the one that follows.
follows_of_plan : (names : List (List ℕ)) (job next : TextJob) (run : TextRun) → text_job.follows job run next → IsOfPlan names job → IsOfPlan names next
follows_of_plan names (Graph work) next run follows is = record {
  plain = follows_plain (Graph work) next run follows is.plain;
  planned = follows_planned (Graph work) next run follows is.planned;
  same_names = ap names_of follows ∙ is.same_names;
}
follows_of_plan names (Parts work) next run follows is = absurd follows
follows_of_plan names (Pipe work) next run follows is = absurd follows

-- a plan's job is that of a graph
of_graph : (job : TextJob) → IsPlanned job → text_plain.alone job ≡ None
of_graph (Graph work) planned = refl
of_graph (Parts work) planned = absurd planned
of_graph (Pipe work) planned = absurd planned

-- the row of a task in a fine run of such a plan
run_row : (run : TextRun) → IsPlainJob (job_of run) → IsPlanned (job_of run) → IsKept text_job run → run_reason text_job run ≡ Fine → (t : ℕ) → t < length (net_of (job_of run)).tasks
    → kind_counts (task_entries t (journal_of run)) ≡ row_of (one_if (has_value t (job_of run))) (one_if (has_value t (job_of run)))
run_row run plain planned kept fine t below =
    let such : IsGraphJob text_plain greatest_depth (job_of run) = record { such = plain_to (job_of run) planned plain; graph = of_graph (job_of run) planned } in
    let is : IsGraphRun text_job run (text_answer (job_of run)) =
    graph_run text_job text_plain text_plainly greatest_depth run (text_answer (job_of run)) such (allows_plain text_job text_plain text_plainly greatest_depth (job_of run) such) kept.legal kept.complete in
    fine_row text_job run (text_answer (job_of run)) is (reason_counts text_job run kept.legal fine) t below

-- what is known of a round: it is fine, and of a job of this plan
record IsFineRound (names : List (List ℕ)) (run : TextRun) : Type 0 where
  of_plan : IsOfPlan names (job_of run)
  kept : IsKept text_job run
  fine : run_reason text_job run ≡ Fine

-- as many names as tasks
named : (job : TextJob) → IsPlanned job → length (names_of job) ≡ length (net_of job).tasks
named (Graph work) is =
    let graph : graph_of work ≡ work.plan.top = ap (graph_in work.plan) is.1 in
    subst (λ (g : GraphRows). length g.names ≡ length g.net.tasks) (sym graph) (is.0.graphs 0 work.plan.top (omega arith)).names
named (Parts work) is = absurd is
named (Pipe work) is = absurd is

-- the rows of some rounds
round_rows : (names : List (List ℕ)) (t : ℕ) → t < length names → (runs : List TextRun) → All (IsFineRound names) runs → profile_row (map journal_of runs) t ≡ plain_row (map job_of runs) t
round_rows names t below [] fine = refl
round_rows names t below (run ∷ rest) fine =
    let here : IsFineRound names run = All-head (IsFineRound names) run rest fine in
    let is = here.of_plan in
    let inside : t < length (net_of (job_of run)).tasks = omega (arith, below, named (job_of run) is.planned, ap length is.same_names) in
    let n : ℕ = one_if (has_value t (job_of run)) in
    let m : ℕ = times_valued (map job_of rest) t in
    kind_counts-append (task_entries t (journal_of run)) (flat_map (task_entries t) (map journal_of rest))
    ∙ ap (λ r. row_plus r (profile_row (map journal_of rest) t)) (run_row run is.plain is.planned here.kept here.fine t inside)
    ∙ ap (row_plus (row_of n n)) (round_rows names t below rest (All-tail (IsFineRound names) run rest fine))
    ∙ ap (λ k. row_of k k) (sym (sum_by-cons (λ job. one_if (has_value t job)) (job_of run) (map job_of rest)))

-- So the rows of the profile are those by one thread.
pub plain_rows_same : (asked : AskedRounds) (job : TextJob) (runs : List TextRun) → IsPlainJob job → IsPlanned job → AreAllRounds text_job job (round_rule asked) runs → last_reason runs ≡ Fine
    → profile_rows (length (names_of job)) (map journal_of runs) ≡ plain_rows asked job
plain_rows_same asked job runs plain planned all fine =
    map_below (profile_row (map journal_of runs)) (plain_row (plain_jobs asked job)) 0 (length (names_of job))
    (λ t below. round_rows (names_of job) t (omega (arith, below)) runs each ∙ ap (λ jobs. plain_row jobs t) (plain_rounds_jobs asked job runs plain planned all fine))
  where
    each : All (IsFineRound (names_of job)) runs
    each = λ k d below. record {
      of_plan = rounds_keep (IsOfPlan (names_of job)) (follows_of_plan (names_of job)) job runs all.first.rounds (record { plain = plain; planned = planned; same_names = refl }) k d below;
      kept = all.first.rounds.kept k d below;
      fine = plain_rounds_all_fine asked job runs plain planned all fine k d below;
    }

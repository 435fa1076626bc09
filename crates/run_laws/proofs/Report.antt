-- A complete, legal run of a net without weak edges and starting tokens, in which each task puts just what it takes:
-- it is fine exactly where its one-thread values have no fault and no more tasks start than the limit, and then
-- its ends are these values.
use Rattle.std.proofs.Common.{◌≡◌, ◌⊎◌, inl, inr, ℕ, ◌+◌, ◌-◌, ◌<◌, ◌≤◌, true, false, cond, get_or, List, [], length, Option, Some, None, refl, ap, subst, arith}
use Rattle.std.specs.Prelude.{slice_get, IsSomeAnd, count_by, sum_by}
use Rattle.std.specs.Option.{option_map_or}
use Rattle.std.specs.List.{range_with_len}
use Rattle.std.proofs.lemmas.Bool.{cases_lt}
use Rattle.std.proofs.lemmas.Option.{slice_get_within, slice_get-get_or}
use Rattle.task_graph.specs.NetRows.{NetRows}
use Rattle.task_graph.specs.declared.net.EdgeRow.{EdgeRow}
use Rattle.journal_rules.specs.declared.entry.Why.{Why}
use Rattle.journal_rules.specs.declared.entry.Why.TheVariants.{Long, Wide, Unmet, Inner, OverRelease}
use Rattle.journal_rules.specs.declared.entry.Entry.{Entry}
use Rattle.journal_rules.specs.declared.entry.Entry.TheVariants.{Start, End, Fault, Drop}
use Rattle.run_frame.specs.declared.run.ValueRow.{ValueRow}
use Rattle.run_frame.specs.declared.run.FrameRun.{FrameRun, out-FrameRun}
use Rattle.run_frame.specs.Meaning.{Meaning}
use Rattle.run_frame.specs.Runs.{IsFine}
use Rattle.run_frame.specs.WorkRule.{Work, work_at, WorkRule, FaultAllowed, FaultRule}
use Rattle.run_frame.specs.NestedRule.{NestedRule, InnerFault, InnerWhy, IsInnerOf, job_of, journal_of}
use Rattle.run_frame.specs.Legal.{Legal, LegalJournal, CompleteRun, inner_at}
use Rattle.task_graph.specs.Net.{IsNet}
use Rattle.journal_rules.specs.SemaphoreRule.{max_of}
use Rattle.run_laws.specs.Graphs.{IsGraph}
use Rattle.run_laws.specs.Laws.{IsSteadyRun, HasNoOtherValues, IsGraphRun, IsDecided}
use Rattle.run_laws.specs.OneThreadValue.{OneAnswer, source_of, one_thread_value}
use Rattle.run_laws.specs.Ends.{ends}
use Rattle.run_laws.specs.OneAnswer.{AllowsOne, InnerRunOf}
use Rattle.run_laws.proofs.Along.{both, weaker}
use Rattle.run_laws.proofs.Legally.{Given}
use Rattle.run_laws.proofs.Once.{steady_once}
use Rattle.run_laws.proofs.Runs.{inner_sound, legal_journal, one_end}
use Rattle.run_laws.proofs.Reaches.{is_end}
use Rattle.run_laws.proofs.Whole.{Finished, all_values, whole_values, no_faults}
use Rattle.run_laws.proofs.Faults.{IsOneFault, own_why}
use Rattle.run_laws.specs.Starts.{HasFault}
use Rattle.run_laws.proofs.Tasks.{ends_once}
use Rattle.run_laws.proofs.Limits.{fine_within, within_fine}
use Rattle.run_laws.specs.Starts.{tasks_started}
use Rattle.run_laws.specs.Starts.{starts_once}
use Rattle.run_laws.proofs.Units.{no_unit_trouble}

-- the source of an edge is a task, in a net that has tasks
source_in : (net : NetRows) → ((e : ℕ) → e < length net.edges → source_of net e < length net.tasks) → 0 < length net.tasks → (e : ℕ) → source_of net e < length net.tasks
source_in net from_tasks some e = by_row (slice_get net.edges e) refl
  where
    by_row : (o : Option EdgeRow) → slice_get net.edges e ≡ o → source_of net e < length net.tasks
    by_row None is = let none : source_of net e ≡ 0 = ap (λ o. option_map_or (λ (r : EdgeRow). r.from) o 0) is in omega arith
    by_row (Some row) is = from_tasks e (slice_get_within net.edges e row is)

-- the edges of a well-formed net leave tasks of it
from_net : (net : NetRows) → IsNet net → (e : ℕ) → e < length net.edges → source_of net e < length net.tasks
from_net net is e below =
    let row : EdgeRow = record { from = 0; to = 0; start = false } in
    let at : source_of net e ≡ (get_or net.edges e row).from = ap (λ o. option_map_or (λ (r : EdgeRow). r.from) o 0) (slice_get-get_or net.edges e row below) in
    omega (arith, at, (is.edges e row below).from_in_range)

-- each semaphore of it has a unit at first
units_first : (net : NetRows) → IsNet net → (s : ℕ) → s < length net.sems → 1 ≤ max_of net s
units_first net is s below = is.sems s 0 below

module _ {J V : Type 0} (meaning : Meaning J V) where
  -- what is given of a steady run
  steady_given : (run : FrameRun J V) (one : OneAnswer V) → IsSteadyRun meaning run one → Given (meaning.net (job_of run)) (meaning.limit (job_of run)) one (out-FrameRun J V run).values (journal_of run)
  steady_given run one is =
      let journal : LegalJournal meaning run = legal_journal meaning run is.legal in
      record {
        strong = is.strong;
        shape = journal.shape;
        found = journal.found;
        steady = is.steady;
        one_ends = weaker _ _ (λ b x rules. one_end meaning run one is.one_answer is.legal b x rules.0 rules.1) [] (journal_of run) (both _ _ [] (journal_of run) journal.work journal.nested);
      }

  -- a Fault of a legal run is one of the one answer, but for one of a unit
  pub one_fault : (run : FrameRun J V) (one : OneAnswer V) → AllowsOne meaning (job_of run) one → Legal meaning run → (b : List Entry) (x : Entry)
      → WorkRule meaning (job_of run) (out-FrameRun J V run).values (inner_at run) b x → NestedRule meaning (job_of run) (out-FrameRun J V run).values (inner_at run) b x
      → IsOneFault one (out-FrameRun J V run).values b x
  one_fault run one allows legal b (Start task cause ins) work nested = tt
  one_fault run one allows legal b (End start gives inner) work nested = tt
  one_fault run one allows legal b (Drop task cause why) work nested = tt
  one_fault run one allows legal b (Fault start why) work nested = λ own. by_run own (inner_at run (length b)) refl work nested
    where
      values : List (ValueRow V)
      values = (out-FrameRun J V run).values

      own_fault : (w : Work V) (y : Why) → own_why y ≡ true → FaultAllowed meaning (job_of run) w y → one w.task w.found ≡ None
      own_fault w (Long n) own a = allows.fault w.task w.found (Long n) a
      own_fault w (Wide n) own a = allows.fault w.task w.found (Wide n) a
      own_fault w (Unmet k) own a = allows.fault w.task w.found (Unmet k) a
      own_fault w Inner own a = absurd a
      own_fault w (OverRelease s) own a = absurd (cc)

      inner_fault : (w : Work V) (inner : FrameRun J V) → InnerRunOf meaning (job_of run) w.task w.found inner → (y : Why) → own_why y ≡ true → InnerWhy meaning inner y → one w.task w.found ≡ None
      inner_fault w inner of_it (Long n) own a = allows.gather_fault w.task w.found inner (Long n) of_it a.0 a.1
      inner_fault w inner of_it (Wide n) own a = allows.gather_fault w.task w.found inner (Wide n) of_it a.0 a.1
      inner_fault w inner of_it (Unmet k) own a = allows.gather_fault w.task w.found inner (Unmet k) of_it a.0 a.1
      inner_fault w inner of_it Inner own a = allows.inner_fault w.task w.found inner of_it a
      inner_fault w inner of_it (OverRelease s) own a = absurd (cc)

      by_own : own_why why ≡ true → (o : Option (Work V)) → IsSomeAnd o (λ (w : Work V). FaultAllowed meaning (job_of run) w why) → IsSomeAnd o (λ (w : Work V). one w.task w.found ≡ None)
      by_own own None a = absurd a
      by_own own (Some w) a = own_fault w why own a

      by_inner : own_why why ≡ true → (inner : FrameRun J V) → inner_at run (length b) ≡ Some inner → (o : Option (Work V)) → IsSomeAnd o (λ (w : Work V). IsInnerOf meaning (job_of run) w inner × InnerWhy meaning inner why)
          → IsSomeAnd o (λ (w : Work V). one w.task w.found ≡ None)
      by_inner own inner is None a = absurd a
      by_inner own inner is (Some w) a =
          let sound = inner_sound meaning run legal (length b) inner is in
          inner_fault w inner (record { answered = a.0; legal = sound.0; complete = sound.1 }) why own a.1

      by_run : own_why why ≡ true → (o : Option (FrameRun J V)) → inner_at run (length b) ≡ o
          → FaultRule meaning (job_of run) values b start why o → InnerFault meaning (job_of run) values b start why o → IsSomeAnd (work_at values b start) (λ (w : Work V). one w.task w.found ≡ None)
      by_run own None is w n = by_own own (work_at values b start) w
      by_run own (Some inner) is w n = by_inner own inner is (work_at values b start) n

  -- what is given of a run
  of_run : (run : FrameRun J V) (one : OneAnswer V) → IsGraph (meaning.net (job_of run)) → AllowsOne meaning (job_of run) one → Legal meaning run
      → Given (meaning.net (job_of run)) (meaning.limit (job_of run)) one (out-FrameRun J V run).values (journal_of run)
  of_run run one graph allows legal =
      let journal : LegalJournal meaning run = legal_journal meaning run legal in
      record {
        strong = graph.plain.strong;
        shape = journal.shape;
        found = journal.found;
        steady = steady_once (meaning.net (job_of run)) (meaning.limit (job_of run)) (journal_of run) graph.plain journal.shape;
        one_ends = weaker _ _ (λ b x rules. one_end meaning run one allows legal b x rules.0 rules.1) [] (journal_of run) (both _ _ [] (journal_of run) journal.work journal.nested);
      }

  -- A complete run of a graph is fine where the values of one thread have no fault and no more tasks start than
  -- the limit.
  pub run_fine : (run : FrameRun J V) (one : OneAnswer V) → IsGraph (meaning.net (job_of run)) → AllowsOne meaning (job_of run) one → Legal meaning run → CompleteRun meaning run
      → ¬ HasFault (meaning.net (job_of run)) one (length (meaning.net (job_of run)).tasks) → tasks_started (meaning.net (job_of run)) one (length (meaning.net (job_of run)).tasks) ≤ meaning.limit (job_of run)
      → IsFine (journal_of run)
  run_fine run one graph allows legal complete no_fault few =
      let journal : LegalJournal meaning run = legal_journal meaning run legal in
      let is = of_run run one graph allows legal in
      within_fine (meaning.net (job_of run)) (meaning.limit (job_of run)) one (out-FrameRun J V run).values (journal_of run) is
      (weaker _ _ (λ b x rules. one_fault run one allows legal b x rules.0 rules.1) [] (journal_of run) (both _ _ [] (journal_of run) journal.work journal.nested))
      graph.plain complete (no_unit_trouble (meaning.net (job_of run)) (meaning.limit (job_of run)) (journal_of run) graph.returns is.steady journal.shape) no_fault few

  -- Where it is fine they have none, and
  pub fine_run : (run : FrameRun J V) (one : OneAnswer V) → IsGraph (meaning.net (job_of run)) → AllowsOne meaning (job_of run) one → Legal meaning run → CompleteRun meaning run → IsFine (journal_of run)
      → (n : ℕ) → (HasFault (meaning.net (job_of run)) one n → ⊥) × (tasks_started (meaning.net (job_of run)) one n ≤ meaning.limit (job_of run))
  fine_run run one graph allows legal complete fine n = (
    (λ f. no_faults net (meaning.limit (job_of run)) one (out-FrameRun J V run).values (journal_of run) is (done (omega (arith, f.in_net))) n f.task f.in_net f.place f.round f.at_place f.faults),
    by_tasks (cases_lt 0 (length net.tasks)),
  )
    where
      net : NetRows
      net = meaning.net (job_of run)

      is : Given net (meaning.limit (job_of run)) one (out-FrameRun J V run).values (journal_of run)
      is = of_run run one graph allows legal

      done : 0 < length net.tasks → Finished net (meaning.limit (job_of run)) (journal_of run)
      done some = record { complete = complete; fine = fine; sources_in = source_in net graph.from_tasks some }

      by_tasks : (0 < length net.tasks) ⊎ (length net.tasks ≤ 0) → tasks_started net one n ≤ meaning.limit (job_of run)
      by_tasks (inl some) = fine_within net (meaning.limit (job_of run)) one (out-FrameRun J V run).values (journal_of run) is (done some) n
      by_tasks (inr none) = let empty : length net.tasks ≡ 0 = omega arith in let nothing : tasks_started net one n ≡ 0 = ap (λ k. sum_by (λ t. cond (starts_once net one n t) 1 0) (range_with_len 0 k)) empty in omega arith

  -- its ends are these values.
  pub fine_values : (run : FrameRun J V) (one : OneAnswer V) → IsGraph (meaning.net (job_of run)) → AllowsOne meaning (job_of run) one → Legal meaning run → CompleteRun meaning run → IsFine (journal_of run)
      → (t : ℕ) → t < length (meaning.net (job_of run)).tasks → ends (out-FrameRun J V run).values (journal_of run) t ≡ one_thread_value (meaning.net (job_of run)) one (length (meaning.net (job_of run)).tasks) t
  fine_values run one graph allows legal complete fine t below =
      let net : NetRows = meaning.net (job_of run) in
      let is = of_run run one graph allows legal in
      let spare : (length net.tasks - count_by is_end (journal_of run)) + count_by is_end (journal_of run) ≡ length net.tasks = omega (arith, ends_once net (meaning.limit (job_of run)) (journal_of run) graph.plain is.shape) in
      subst (λ n. ends (out-FrameRun J V run).values (journal_of run) t ≡ one_thread_value net one n t) spare
      (whole_values net (meaning.limit (job_of run)) one (out-FrameRun J V run).values (journal_of run) is (record { complete = complete; fine = fine; sources_in = source_in net graph.from_tasks (omega arith) }) (length net.tasks - count_by is_end (journal_of run)) t below)

  -- The values of one thread in a steady run that is complete and fine have all an end.
  pub all_steady_values : (run : FrameRun J V) → HasNoOtherValues meaning run
  all_steady_values run one is complete fine n t below =
      all_values (meaning.net (job_of run)) (meaning.limit (job_of run)) one (out-FrameRun J V run).values (journal_of run) (steady_given run one is)
      (record { complete = complete; fine = fine; sources_in = source_in (meaning.net (job_of run)) (from_net (meaning.net (job_of run)) is.net) (omega (arith, below)) }) n t below

  -- a run of a graph is fine exactly where its one-thread values run through
  pub is_decided : (run : FrameRun J V) (one : OneAnswer V) → IsGraphRun meaning run one → IsDecided meaning run one
  is_decided run one is = record {
    fine = (
      (λ fine. let both = fine_run run one graph is.one_answer is.legal is.complete fine (length net.tasks) in record { no_fault = both.0; few = both.1 }),
      (λ through. run_fine run one graph is.one_answer is.legal is.complete through.no_fault through.few),
    );
    values = fine_values run one graph is.one_answer is.legal is.complete;
  }
    where
      net : NetRows
      net = meaning.net (job_of run)

      graph : IsGraph net
      graph = record { plain = is.once; returns = record { same = is.returns; units = units_first net is.net }; from_tasks = from_net net is.net }

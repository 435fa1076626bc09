-- Plain jobs allow one answer of each task, by induction over the depth of runs inside runs; so their runs are decided.
use Rattle.std.proofs.Common.{◌≡◌, ℕ, zero, suc, ◌<◌, Bool, true, false, cond, List, length, Option, Some, None, sym, refl, ap, ◌∙◌, subst, arith}
use Rattle.std.specs.Prelude.{unwrap_or}
use Rattle.std.specs.Option.{option_map, option_and_then}
use Rattle.task_graph.specs.NetRows.{NetRows}
use Rattle.task_graph.specs.Net.{out_edges}
use Rattle.join_words.specs.Ins.{InputValue}
use Rattle.run_frame.specs.declared.run.FrameRun.{FrameRun}
use Rattle.run_frame.specs.LastEnds.{last_value}
use Rattle.run_frame.specs.Legal.{Legal, CompleteRun}
use Rattle.run_frame.specs.Meaning.{Meaning}
use Rattle.run_frame.specs.NestedRule.{job_of, journal_of}
use Rattle.run_frame.specs.Runs.{IsFine, values_of}
use Rattle.run_laws.specs.OneAnswer.{AllowsOne, InnerRunOf}
use Rattle.run_laws.specs.OneThreadValue.{TaskEnd, OneAnswer}
use Rattle.run_laws.specs.Laws.{IsGraphRun, IsDecided}
use Rattle.run_laws.proofs.Report.{is_decided}
use Rattle.text_tasks.specs.Sinks.{task_values}
use Rattle.run_laws.specs.PlainJobs.{PlainJobs, IsGraphJob, IsPlainly, IsInside, LeadsTo, answer_by, comes_to, graph_comes_to, end_by, last_of, plain_answer, plain_value, plain_values, runs_through}
use Rattle.run_laws.specs.PlainLaws.{RunsPlainly}
use Rattle.run_laws.proofs.Reasons.{counts_reason, reason_counts}
use Rattle.run_laws.proofs.LastEnds.{last_value_same, map_below}
use Rattle.run_laws.proofs.Through.{test_through, through_test}

-- what a test that isn't true is
not_true : (b : Bool) → (b ≡ true → ⊥) → b ≡ false
not_true true never = absurd (never refl)
not_true false never = refl

pred_same : (m n : ℕ) → suc m ≡ suc n → n ≡ m
pred_same m n same = omega arith

module _ {J V : Type 0} (meaning : Meaning J V) (plain : PlainJobs J V) (laws : IsPlainly meaning plain) where
  -- a run that is kept of a plain job whose tasks have one answer
  pub graph_run : (d : ℕ) (run : FrameRun J V) (one : OneAnswer V) → IsGraphJob plain d (job_of run) → AllowsOne meaning (job_of run) one → Legal meaning run → CompleteRun meaning run → IsGraphRun meaning run one
  graph_run d run one is allows legal complete = record {
    net = laws.net d (job_of run) is;
    once = laws.once d (job_of run) is;
    returns = laws.returns d (job_of run) is;
    one_answer = allows;
    legal = legal;
    complete = complete;
  }

  module _ (d : ℕ) (run : FrameRun J V) (one : OneAnswer V) (is : IsGraphJob plain d (job_of run)) (allows : AllowsOne meaning (job_of run) one) (legal : Legal meaning run) (complete : CompleteRun meaning run) where
    abbrev net : NetRows
    net = meaning.net (job_of run)

    decided : IsDecided meaning run one
    decided = is_decided meaning run one (graph_run d run one is allows legal complete)

    -- it is fine exactly where its values by one thread run through
    pub fine_through : IsFine (journal_of run) → runs_through net (meaning.limit (job_of run)) one ≡ true
    fine_through fine = through_test net (meaning.limit (job_of run)) one (decided.fine.0 fine)

    pub through_fine : runs_through net (meaning.limit (job_of run)) one ≡ true → IsFine (journal_of run)
    through_fine through = decided.fine.1 (test_through net (meaning.limit (job_of run)) one through)

    -- and then its tasks have ended with these
    pub fine_value : IsFine (journal_of run) → (t : ℕ) → t < length net.tasks → last_value (journal_of run) (values_of run) t ≡ plain_value net one t
    fine_value fine t below = last_value_same meaning run legal t ∙ ap last_of (decided.values fine t below)

    fine_values : IsFine (journal_of run) → task_values (meaning.net (job_of run)) run ≡ plain_values net one
    fine_values fine = map_below (last_value (journal_of run) (values_of run)) (plain_value net one) 0 (length net.tasks) (λ t below. fine_value fine t (omega (arith, below)))

    -- what its job comes to, where it is fine and where it isn't
    comes_fine : IsFine (journal_of run) → graph_comes_to meaning plain (job_of run) one ≡ plain.gathered (job_of run) (task_values (meaning.net (job_of run)) run)
    comes_fine fine =
        ap (λ b. cond b (plain.gathered (job_of run) (plain_values net one)) None) (fine_through fine)
        ∙ ap (plain.gathered (job_of run)) (sym (fine_values fine))

    comes_short : (IsFine (journal_of run) → ⊥) → graph_comes_to meaning plain (job_of run) one ≡ None
    comes_short short = ap (λ b. cond b (plain.gathered (job_of run) (plain_values net one)) None) (not_true _ (λ through. short (through_fine through)))

    -- so it leads to that
    graph_leads : LeadsTo meaning run (graph_comes_to meaning plain (job_of run) one)
    graph_leads = record {
      value = λ v fine gathered. comes_fine fine ∙ laws.gathers d run v is gathered;
      short = comes_short;
      fault = λ why fine faulted. comes_fine fine ∙ laws.gather_fault d run why is faulted;
    }

  -- what a job in a task's place has to come to
  Leads : ℕ → (J → Option V) → Type 0
  Leads d inside = (below : ℕ) (run : FrameRun J V) → d ≡ suc below → plain.is_plain below (job_of run) → Legal meaning run → CompleteRun meaning run → LeadsTo meaning run (inside (job_of run))

  allows_by : (d : ℕ) (inside : J → Option V) → Leads d inside → (job : J) → IsGraphJob plain d job → AllowsOne meaning job (answer_by meaning plain inside job)
  unfolding Leads
  allows_by d inside leads job is = record {
    value = λ t found v answer allowed. ap (option_and_then (end_by net t inside)) (laws.value d job t found v answer is allowed);
    fault = λ t found why allowed. ap (option_and_then (end_by net t inside)) (laws.fault d job t found why is allowed);
    inner_value = λ t found run v of_it fine gathered. (does_it t found run of_it ∙ ap (option_map (whole t)) ((leads_it t found run of_it).value v fine gathered));
    inner_fault = λ t found run of_it short. (does_it t found run of_it ∙ ap (option_map (whole t)) ((leads_it t found run of_it).short short));
    gather_fault = λ t found run why of_it fine faulted. (does_it t found run of_it ∙ ap (option_map (whole t)) ((leads_it t found run of_it).fault why fine faulted));
  }
    where
      net : NetRows
      net = meaning.net job

      whole : ℕ → V → TaskEnd V
      whole t v = record { value = v; gives = out_edges net t }

      in_it : (t : ℕ) (found : List (InputValue V)) (run : FrameRun J V) → InnerRunOf meaning job t found run → IsInside plain d job t found (job_of run)
      in_it t found run of_it = laws.inner d job t found (job_of run) is of_it.answered

      does_it : (t : ℕ) (found : List (InputValue V)) (run : FrameRun J V) → InnerRunOf meaning job t found run → answer_by meaning plain inside job t found ≡ option_map (whole t) (inside (job_of run))
      does_it t found run of_it = ap (option_and_then (end_by net t inside)) (in_it t found run of_it).does

      leads_it : (t : ℕ) (found : List (InputValue V)) (run : FrameRun J V) → InnerRunOf meaning job t found run → LeadsTo meaning run (inside (job_of run))
      leads_it t found run of_it = let there = in_it t found run of_it in leads there.below run there.less there.such of_it.legal of_it.complete

  -- a job inside leads to what it comes to, by itself or as a graph
  comes_leads : (d : ℕ) (run : FrameRun J V) → plain.is_plain d (job_of run) → (IsGraphJob plain d (job_of run) → AllowsOne meaning (job_of run) (plain_answer meaning plain d (job_of run)))
      → Legal meaning run → CompleteRun meaning run → LeadsTo meaning run (comes_to meaning plain (job_of run) (plain_answer meaning plain d (job_of run)))
  comes_leads d run is allows legal complete = by_alone (plain.alone (job_of run)) refl
    where
      as_graph : Option V
      as_graph = graph_comes_to meaning plain (job_of run) (plain_answer meaning plain d (job_of run))

      by_alone : (o : Option (Option V)) → plain.alone (job_of run) ≡ o → LeadsTo meaning run (unwrap_or o as_graph)
      by_alone None graph = let job : IsGraphJob plain d (job_of run) = record { such = is; graph = graph } in graph_leads d run (plain_answer meaning plain d (job_of run)) job (allows job) legal complete
      by_alone (Some result) known = laws.by_itself d run result is known (record { legal = legal; complete = complete })

  -- a plain job that is a graph allows one answer of each task
  pub allows_plain : (d : ℕ) (job : J) → IsGraphJob plain d job → AllowsOne meaning job (plain_answer meaning plain d job)
  unfolding Leads
  allows_plain zero = allows_by zero (λ inner. None) (λ below run less is legal complete. absurd (omega (arith, less)))
  allows_plain (suc d) = allows_by (suc d) (λ inner. comes_to meaning plain inner (plain_answer meaning plain d inner)) (λ below run less is legal complete.
      comes_leads d run (subst (λ k. plain.is_plain k (job_of run)) (pred_same d below less) is) (allows_plain d (job_of run)) legal complete)

  -- A run that is kept of a plain job is fine exactly where the values by one thread run through, and then its tasks
  -- have ended with these values.
  pub runs_plainly : (run : FrameRun J V) → RunsPlainly meaning plain run
  runs_plainly run d is kept =
      let one = plain_answer meaning plain d (job_of run) in
      let allows : AllowsOne meaning (job_of run) one = allows_plain d (job_of run) is in
      record {
        fine = (
          (λ reason. fine_through d run one is allows kept.legal kept.complete (reason_counts meaning run kept.legal reason)),
          (λ through. counts_reason meaning run (through_fine d run one is allows kept.legal kept.complete through)),
        );
        values = λ reason. fine_value d run one is allows kept.legal kept.complete (reason_counts meaning run kept.legal reason);
      }

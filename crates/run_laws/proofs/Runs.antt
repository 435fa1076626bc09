-- A legal run of a job that allows one answer: its ends are the one answer's.
use Rattle.std.proofs.Common.{◌≡◌, ℕ, Bool, true, false, cond, List, [], length, Option, Some, None, sym, refl, ap, ◌∙◌, subst}
use Rattle.std.specs.Prelude.{◌==◌, IsSomeAnd, slice_get}
use Rattle.std.proofs.lemmas.Option.{same_Some}
use Rattle.task_graph.specs.Net.{is_weak}
use Rattle.journal_rules.specs.declared.entry.Entry.{Entry}
use Rattle.journal_rules.specs.declared.entry.Entry.TheVariants.{Start, End, Fault, Drop}
use Rattle.run_frame.specs.declared.run.ValueRow.{ValueRow}
use Rattle.run_frame.specs.declared.run.FrameRun.{FrameRun, FrameRun-F, FrameRun', out-FrameRun, outs-FrameRun', Row_of-InnerRow, end_of-InnerRow, more_of-InnerRow, items-the_row-InnerRow, items_shown-the_row-InnerRow-0}
use Rattle.run_frame.specs.declared.run.InnerRow.{InnerRow, InnerRow-F, InnerRow', out-InnerRow, outs-InnerRow'}
use Rattle.run_frame.specs.Meaning.{Meaning}
use Rattle.run_frame.specs.Runs.{value_at, inner_in}
use Rattle.run_frame.specs.WorkRule.{Work, work_at, WorkRule, Answers}
use Rattle.run_frame.specs.NestedRule.{NestedRule, InnerEnd, job_of, journal_of}
use Rattle.run_frame.specs.Legal.{Legal, LegalJournal, LegalRows, LegalRow, CompleteRun, inner_at}
use Rattle.run_laws.specs.OneThreadValue.{TaskEnd, OneAnswer, one_thread_value}
use Rattle.run_laws.specs.Ends.{ends}
use Rattle.run_laws.specs.Steady.{Steady}
use Rattle.run_laws.specs.OneAnswer.{AllowsOne}
use Rattle.run_laws.proofs.Along.{both, weaker}
use Rattle.run_laws.proofs.Legally.{IsOneEnd, one_thread}

module _ {J V : Type 0} (meaning : Meaning J V) where
  abbrev pub Sound : FrameRun J V → Type 0
  Sound run = Legal meaning run × CompleteRun meaning run

  -- the run of a legal row
  row_sound : (row : InnerRow J V) → LegalRow meaning row → Sound (out-InnerRow J V row).run
  row_sound (InnerRow' place run) legal = subst (λ (r : InnerRow-F J V (FrameRun J V) (InnerRow J V)). Sound r.run) (sym (outs-InnerRow' place run)) legal

  rows_sound : {m : _} (rows : Row_of-InnerRow J V m) → LegalRows meaning rows → (n : ℕ) (run : FrameRun J V) → inner_in (items-the_row-InnerRow J V m rows) n ≡ Some run → Sound run
  rows_sound end_of-InnerRow legal n run is = absurd (cc)
  rows_sound (more_of-InnerRow row rest) legal n run is = by_place ((out-InnerRow J V row).place == n) (rows_sound rest legal.1 n run) is
    where
      by_place : (b : Bool) → (inner_in (items-the_row-InnerRow J V _ rest) n ≡ Some run → Sound run) → cond b (Some (out-InnerRow J V row).run) (inner_in (items-the_row-InnerRow J V _ rest) n) ≡ Some run → Sound run
      by_place true more is2 = subst Sound (same_Some _ _ is2) (row_sound row legal.0)
      by_place false more is2 = more is2

  -- each run inside a legal run is legal and complete
  pub inner_sound : (run : FrameRun J V) → Legal meaning run → (n : ℕ) (inner : FrameRun J V) → inner_at run n ≡ Some inner → Sound inner
  inner_sound (FrameRun' job journal values shape rows) legal n inner is =
      rows_sound rows legal.2 n inner (ap (λ items. inner_in items n) (sym (items_shown-the_row-InnerRow-0 J V shape rows)) ∙ ap (λ (l : FrameRun-F J V (FrameRun J V) (InnerRow J V)). inner_in l.inner.items n) (sym (outs-FrameRun' job journal values shape rows)) ∙ is)

  pub legal_journal : (run : FrameRun J V) → Legal meaning run → LegalJournal meaning run
  legal_journal (FrameRun' job journal values shape rows) legal = legal.0

  -- an End of a legal run is the one answer's
  pub one_end : (run : FrameRun J V) (one : OneAnswer V) → AllowsOne meaning (job_of run) one → Legal meaning run → (b : List Entry) (x : Entry)
      → WorkRule meaning (job_of run) (out-FrameRun J V run).values (inner_at run) b x → NestedRule meaning (job_of run) (out-FrameRun J V run).values (inner_at run) b x
      → IsOneEnd one (out-FrameRun J V run).values b x
  one_end run one allows legal b (Start task cause ins) work nested = tt
  one_end run one allows legal b (Fault start why) work nested = tt
  one_end run one allows legal b (Drop task cause why) work nested = tt
  one_end run one allows legal b (End start gives false) work nested = by_work (work_at values b start) work
    where
      values : List (ValueRow V)
      values = (out-FrameRun J V run).values

      by_value : (w : Work V) (o : Option V) → IsSomeAnd o (λ v. Answers meaning (job_of run) w v gives) → IsSomeAnd o (λ v. one w.task w.found ≡ Some (record { value = v; gives = gives }))
      by_value w None a = absurd a
      by_value w (Some v) a = allows.value w.task w.found v a.answer a.allowed ∙ ap (λ gs. Some (record { value = v; gives = gs })) (sym a.chosen)

      by_work : (o : Option (Work V)) → IsSomeAnd o (λ (w : Work V). IsSomeAnd (value_at values (length b)) (λ v. Answers meaning (job_of run) w v gives))
          → IsSomeAnd o (λ (w : Work V). IsSomeAnd (value_at values (length b)) (λ v. one w.task w.found ≡ Some (record { value = v; gives = gives })))
      by_work None a = absurd a
      by_work (Some w) a = by_value w (value_at values (length b)) a
  one_end run one allows legal b (End start gives true) work nested = by_run (inner_at run (length b)) refl nested
    where
      values : List (ValueRow V)
      values = (out-FrameRun J V run).values

      by_value : (inner : FrameRun J V) → Sound inner → (w : Work V) (o : Option V) → IsSomeAnd o (λ v. InnerEnd meaning (job_of run) w v gives inner) → IsSomeAnd o (λ v. one w.task w.found ≡ Some (record { value = v; gives = gives }))
      by_value inner sound w None a = absurd a
      by_value inner sound w (Some v) a =
          allows.inner_value w.task w.found inner v (record { answered = a.answered; legal = sound.0; complete = sound.1 }) a.fine a.gathered ∙ ap (λ gs. Some (record { value = v; gives = gs })) (sym a.all_edges)

      by_work : (inner : FrameRun J V) → Sound inner → (o : Option (Work V)) → IsSomeAnd o (λ (w : Work V). IsSomeAnd (value_at values (length b)) (λ v. InnerEnd meaning (job_of run) w v gives inner))
          → IsSomeAnd o (λ (w : Work V). IsSomeAnd (value_at values (length b)) (λ v. one w.task w.found ≡ Some (record { value = v; gives = gives })))
      by_work inner sound None a = absurd a
      by_work inner sound (Some w) a = by_value inner sound w (value_at values (length b)) a

      by_run : (o : Option (FrameRun J V)) → inner_at run (length b) ≡ o
          → IsSomeAnd o (λ inner. IsSomeAnd (work_at values b start) (λ w. IsSomeAnd (value_at values (length b)) (λ v. InnerEnd meaning (job_of run) w v gives inner)))
          → IsSomeAnd (work_at values b start) (λ w. IsSomeAnd (value_at values (length b)) (λ v. one w.task w.found ≡ Some (record { value = v; gives = gives })))
      by_run None is a = absurd a
      by_run (Some inner) is a = by_work inner (inner_sound run legal (length b) inner is) (work_at values b start) a

  -- In a legal, steady run of a net without weak edges, whose job allows one answer, the k-th end of each task is
  -- element k of its one-thread values, for any n at which they have it.
  pub steady_values : (run : FrameRun J V) (one : OneAnswer V) → ((e : ℕ) → is_weak (meaning.net (job_of run)) e ≡ false) → AllowsOne meaning (job_of run) one
      → Legal meaning run → Steady (meaning.net (job_of run)) (journal_of run)
      → (n t k : ℕ) (u w : TaskEnd V) → slice_get (one_thread_value (meaning.net (job_of run)) one n t) k ≡ Some u → slice_get (ends (out-FrameRun J V run).values (journal_of run) t) k ≡ Some w → w ≡ u
  steady_values run one strong allows legal steady =
      one_thread (meaning.net (job_of run)) (meaning.limit (job_of run)) one (out-FrameRun J V run).values (journal_of run) (record {
        strong = strong;
        shape = (legal_journal run legal).shape;
        found = (legal_journal run legal).found;
        steady = steady;
        one_ends = weaker _ _ (λ b x rules. one_end run one allows legal b x rules.0 rules.1) [] (journal_of run) (both _ _ [] (journal_of run) (legal_journal run legal).work (legal_journal run legal).nested);
      })

-- A legal run came to its end fine, by its reason, exactly where its journal has no Fault and no Drop at the limit or
-- for want of a unit.
use Rattle.std.proofs.Common.{◌≡◌, ℕ, suc, ◌+◌, Bool, true, false, cond, List, [], ◌∷◌, length, map, Option, Some, None, sym, refl, ap, ◌∙◌, subst, arith}
use Rattle.std.specs.Prelude.{◌==◌, count_by, slice_get, unwrap_or, IsSomeAnd}
use Rattle.std.specs.Option.{option_map}
use Rattle.std.proofs.lemmas.Bool.Decides.{nat_tests}
use Rattle.std.proofs.lemmas.List.Sums.{sum_by-cons}
use Rattle.std.proofs.lemmas.Option.{none-some, same_Some}
use Rattle.journal_rules.specs.declared.entry.Entry.{Entry}
use Rattle.journal_rules.specs.declared.entry.Entry.TheVariants.{Start, End, Fault as FaultEntry, Drop}
use Rattle.journal_rules.specs.declared.entry.DropWhy.TheVariants.{Halted, Limit as AtLimit, Stuck as WantsUnit}
use Rattle.journal_rules.specs.declared.entry.Why.{Why}
use Rattle.journal_rules.specs.declared.entry.Why.TheVariants.{Long, Wide, Unmet, Inner, OverRelease}
use Rattle.journal_rules.specs.Counts.{faults, is_fault, start_at}
use Rattle.journal_rules.specs.Complete.{is_limited}
use Rattle.journal_rules.specs.HaltLimitStuckRule.{is_stuck}
use Rattle.run_frame.specs.Meaning.{Meaning}
use Rattle.run_frame.specs.Runs.{IsFine, inner_in}
use Rattle.run_frame.specs.WorkRule.{Work, work_at}
use Rattle.run_frame.specs.NestedRule.{NestedRule, InnerFault, InnerWhy, IsInnerOf, job_of, journal_of}
use Rattle.run_frame.specs.Legal.{Legal, LegalRows, LegalRow, inner_at}
use Rattle.run_frame.specs.declared.run.FrameRun.{FrameRun, FrameRun-F, FrameRun', out-FrameRun, outs-FrameRun', Row_of-InnerRow, end_of-InnerRow, more_of-InnerRow, items-the_row-InnerRow, items_shown-the_row-InnerRow-0}
use Rattle.run_frame.specs.declared.run.FrameRun.TheFolds.{fold_out-FrameRun, fold_out-InnerRow}
use Rattle.run_frame.specs.declared.run.InnerRow.{InnerRow, InnerRow-F, InnerRow', out-InnerRow, outs-InnerRow'}
use Rattle.nested_runs.specs.Reasons.{first_fault, first_fault_from, first_stuck, stuck_reason, unfaulted, below, faulted, reason_at, reason_step, row_step, run_reason}
use Rattle.nested_runs.specs.inside.InnerReasons.{row_reason}
use Rattle.nested_runs.specs.declared.faults.Faulted.{Faulted}
use Rattle.nested_runs.specs.declared.reasons.Reason.{Reason}
use Rattle.nested_runs.specs.declared.reasons.Reason.TheVariants.{Fine, Fault, Limit, Stuck}
use Rattle.run_laws.proofs.Runs.{legal_journal}
use Rattle.run_laws.proofs.LastEnds.{met_at}

-- ---- journals

-- where there is no first Fault there is none, and the other way round
no_first : (n : ℕ) (b : List Entry) → first_fault_from n b ≡ None → faults b ≡ 0
no_first n [] is = refl
no_first n (Start task cause ins ∷ b) is = omega (arith, sum_by-cons (λ x. cond (is_fault x) 1 0) (Start task cause ins) b, no_first (suc n) b is)
no_first n (End start gives inner ∷ b) is = omega (arith, sum_by-cons (λ x. cond (is_fault x) 1 0) (End start gives inner) b, no_first (suc n) b is)
no_first n (FaultEntry start why ∷ b) is = absurd (none-some _ (sym is))
no_first n (Drop task cause why ∷ b) is = omega (arith, sum_by-cons (λ x. cond (is_fault x) 1 0) (Drop task cause why) b, no_first (suc n) b is)

first_none : (n : ℕ) (b : List Entry) → faults b ≡ 0 → first_fault_from n b ≡ None
first_none n [] none = refl
first_none n (Start task cause ins ∷ b) none = first_none (suc n) b (omega (arith, none, sum_by-cons (λ x. cond (is_fault x) 1 0) (Start task cause ins) b))
first_none n (End start gives inner ∷ b) none = first_none (suc n) b (omega (arith, none, sum_by-cons (λ x. cond (is_fault x) 1 0) (End start gives inner) b))
first_none n (FaultEntry start why ∷ b) none = absurd (omega (arith, none, sum_by-cons (λ x. cond (is_fault x) 1 0) (FaultEntry start why) b))
first_none n (Drop task cause why ∷ b) none = first_none (suc n) b (omega (arith, none, sum_by-cons (λ x. cond (is_fault x) 1 0) (Drop task cause why) b))

-- and so for what stuck
no_stuck : (b : List Entry) → first_stuck b ≡ None → count_by is_stuck b ≡ 0
no_stuck [] is = refl
no_stuck (Start task cause ins ∷ b) is = omega (arith, sum_by-cons (λ x. cond (is_stuck x) 1 0) (Start task cause ins) b, no_stuck b is)
no_stuck (End start gives inner ∷ b) is = omega (arith, sum_by-cons (λ x. cond (is_stuck x) 1 0) (End start gives inner) b, no_stuck b is)
no_stuck (FaultEntry start why ∷ b) is = omega (arith, sum_by-cons (λ x. cond (is_stuck x) 1 0) (FaultEntry start why) b, no_stuck b is)
no_stuck (Drop task cause Halted ∷ b) is = omega (arith, sum_by-cons (λ x. cond (is_stuck x) 1 0) (Drop task cause Halted) b, no_stuck b is)
no_stuck (Drop task cause AtLimit ∷ b) is = omega (arith, sum_by-cons (λ x. cond (is_stuck x) 1 0) (Drop task cause AtLimit) b, no_stuck b is)
no_stuck (Drop task cause (WantsUnit s) ∷ b) is = absurd (none-some _ (sym is))

stuck_none : (b : List Entry) → count_by is_stuck b ≡ 0 → first_stuck b ≡ None
stuck_none [] none = refl
stuck_none (Start task cause ins ∷ b) none = stuck_none b (omega (arith, none, sum_by-cons (λ x. cond (is_stuck x) 1 0) (Start task cause ins) b))
stuck_none (End start gives inner ∷ b) none = stuck_none b (omega (arith, none, sum_by-cons (λ x. cond (is_stuck x) 1 0) (End start gives inner) b))
stuck_none (FaultEntry start why ∷ b) none = stuck_none b (omega (arith, none, sum_by-cons (λ x. cond (is_stuck x) 1 0) (FaultEntry start why) b))
stuck_none (Drop task cause Halted ∷ b) none = stuck_none b (omega (arith, none, sum_by-cons (λ x. cond (is_stuck x) 1 0) (Drop task cause Halted) b))
stuck_none (Drop task cause AtLimit ∷ b) none = stuck_none b (omega (arith, none, sum_by-cons (λ x. cond (is_stuck x) 1 0) (Drop task cause AtLimit) b))
stuck_none (Drop task cause (WantsUnit s) ∷ b) none = absurd (omega (arith, none, sum_by-cons (λ x. cond (is_stuck x) 1 0) (Drop task cause (WantsUnit s)) b))

-- without a Fault, by the reason and by the counts
fine_counts : (limit : ℕ) (b : List Entry) → first_fault b ≡ None → unfaulted limit b ≡ Fine → IsFine b
fine_counts limit b none is = by_limit (count_by is_limited b == 0) refl is
  where
    by_stuck : (o : Option ℕ) → first_stuck b ≡ o → stuck_reason o ≡ Fine → first_stuck b ≡ None
    by_stuck None at same = at
    by_stuck (Some task) at same = absurd (cc)

    by_limit : (test : Bool) → (count_by is_limited b == 0) ≡ test → cond test (stuck_reason (first_stuck b)) (Limit [] limit) ≡ Fine → IsFine b
    by_limit true at same = record { no_fault = no_first 0 b none; none_limited = grind (arith, nat_tests); none_stuck = no_stuck b (by_stuck (first_stuck b) refl same) }
    by_limit false at same = absurd (cc)

counts_fine : (limit : ℕ) (b : List Entry) → IsFine b → unfaulted limit b ≡ Fine
counts_fine limit b fine =
    ap (λ k. cond (k == 0) (stuck_reason (first_stuck b)) (Limit [] limit)) fine.none_limited ∙ ap stuck_reason (stuck_none b fine.none_stuck)

-- the first Fault stands where it is told
pub record FaultAt (n : ℕ) (b : List Entry) (fault : Faulted) : Type 0 where
  pub from : ℕ
  pub place : fault.place ≡ n + from
  pub entry : slice_get b from ≡ Some (FaultEntry fault.start fault.why)

further : (n : ℕ) (x : Entry) (b : List Entry) (fault : Faulted) → FaultAt (suc n) b fault → FaultAt n (x ∷ b) fault
further n x b fault at = record { from = suc at.from; place = omega (arith, at.place); entry = at.entry }

first_at : (n : ℕ) (b : List Entry) (fault : Faulted) → first_fault_from n b ≡ Some fault → FaultAt n b fault
first_at n [] fault is = absurd (none-some fault is)
first_at n (Start task cause ins ∷ b) fault is = further n (Start task cause ins) b fault (first_at (suc n) b fault is)
first_at n (End start gives inner ∷ b) fault is = further n (End start gives inner) b fault (first_at (suc n) b fault is)
first_at n (Drop task cause why ∷ b) fault is = further n (Drop task cause why) b fault (first_at (suc n) b fault is)
first_at n (FaultEntry start why ∷ b) fault is =
    let same : record { place = n; start = start; why = why } ≡ fault = same_Some _ _ is in
    record { from = 0; place = ap (λ (f : Faulted). f.place) (sym same) ∙ (let plain : n ≡ n + 0 = omega arith in plain); entry = ap (λ (f : Faulted). Some (FaultEntry f.start f.why)) same }

-- a reason that is told from a task on is fine where it is
below_fine : (task : ℕ) (reason : Reason) → below task reason ≡ Fine → reason ≡ Fine
below_fine task Fine is = refl
below_fine task (Fault path why) is = absurd (cc)
below_fine task (Limit path limit) is = absurd (cc)
below_fine task (Stuck path) is = absurd (cc)

-- a Fault is fine only where it tells of a run that is
pub record TellsFine (why : Why) (inside : Option Reason) : Type 0 where
  pub tells : why ≡ Inner
  pub fine : inside ≡ Some Fine

faulted_fine : (task : ℕ) (why : Why) (inside : Option Reason) → faulted task why inside ≡ Fine → TellsFine why inside
faulted_fine task (Long n) inside is = absurd (cc)
faulted_fine task (Wide n) inside is = absurd (cc)
faulted_fine task (Unmet k) inside is = absurd (cc)
faulted_fine task (OverRelease s) inside is = absurd (cc)
faulted_fine task Inner None is = absurd (cc)
faulted_fine task Inner (Some reason) is = record { tells = refl; fine = ap Some (below_fine task reason is) }

-- ---- runs

module _ {J V : Type 0} (meaning : Meaning J V) where
  -- the reason of a run, by its journal and the reasons of the runs inside it
  abbrev reason_by : FrameRun J V → (Faulted → Option Reason) → Option Faulted → Reason
  reason_by run within o = elim o [
    | None ↦ unfaulted (meaning.limit (job_of run)) (journal_of run)
    | Some fault ↦ faulted (unwrap_or (start_at (journal_of run) fault.start) 0) fault.why (within fault)
  ]

  pub counts_reason : (run : FrameRun J V) → IsFine (journal_of run) → run_reason meaning run ≡ Fine
  counts_reason run fine =
      fold_out-FrameRun J V Reason (ℕ × Reason) (reason_step meaning) row_step run
      ∙ ap (reason_by run _) (first_none 0 (journal_of run) fine.no_fault)
      ∙ counts_fine (meaning.limit (job_of run)) (journal_of run) fine

  reason_inside : (rows : List (InnerRow J V)) (n : ℕ) → reason_at (map (row_reason meaning) rows) n ≡ option_map (run_reason meaning) (inner_in rows n)
  reason_inside [] n = refl
  reason_inside (row ∷ rows) n =
      let told : row_reason meaning row ≡ ((out-InnerRow J V row).place, run_reason meaning (out-InnerRow J V row).run) = fold_out-InnerRow J V Reason (ℕ × Reason) (reason_step meaning) row_step row in
      ap (λ (r : ℕ × Reason). cond (r.0 == n) (Some r.1) (reason_at (map (row_reason meaning) rows) n)) told
      ∙ by_place ((out-InnerRow J V row).place == n) (reason_inside rows n)
    where
      by_place : (b : Bool) → reason_at (map (row_reason meaning) rows) n ≡ option_map (run_reason meaning) (inner_in rows n)
          → cond b (Some (run_reason meaning (out-InnerRow J V row).run)) (reason_at (map (row_reason meaning) rows) n) ≡ option_map (run_reason meaning) (cond b (Some (out-InnerRow J V row).run) (inner_in rows n))
      by_place true rest = refl
      by_place false rest = rest

  -- what is to be shown of each run inside
  abbrev FineInside : FrameRun J V → Type 0
  FineInside run = (n : ℕ) (inner : FrameRun J V) → inner_at run n ≡ Some inner → run_reason meaning inner ≡ Fine → IsFine (journal_of inner)

  by_inside : (run : FrameRun J V) → Legal meaning run → FineInside run → run_reason meaning run ≡ Fine → IsFine (journal_of run)
  by_inside run legal inside is =
      by_fault (first_fault (journal_of run)) refl (sym (fold_out-FrameRun J V Reason (ℕ × Reason) (reason_step meaning) row_step run) ∙ is)
    where
      within : Faulted → Option Reason
      within fault = reason_at (map (row_reason meaning) (out-FrameRun J V run).inner.items) fault.place

      by_run : (fault : Faulted) → FaultAt 0 (journal_of run) fault → fault.why ≡ Inner → (o : Option (FrameRun J V)) → inner_at run fault.place ≡ o → option_map (run_reason meaning) o ≡ Some Fine → ⊥
      by_run fault at tells None is same = none-some Fine same
      by_run fault at tells (Some inner) is same =
          let met = met_at (NestedRule meaning (job_of run) (out-FrameRun J V run).values (inner_at run)) [] (journal_of run) at.from (FaultEntry fault.start fault.why) (legal_journal meaning run legal).nested at.entry in
          let there : length met.0 ≡ fault.place = omega (arith, met.1, at.place) in
          let rule : InnerFault meaning (job_of run) (out-FrameRun J V run).values met.0 fault.start Inner (Some inner) =
          subst (λ why. InnerFault meaning (job_of run) (out-FrameRun J V run).values met.0 fault.start why (Some inner)) tells
          (subst (λ o. InnerFault meaning (job_of run) (out-FrameRun J V run).values met.0 fault.start fault.why o) (ap (inner_at run) there ∙ is) met.2) in
          by_work (work_at (out-FrameRun J V run).values met.0 fault.start) rule
        where
          by_work : (o : Option (Work V)) → IsSomeAnd o (λ (w : Work V). IsInnerOf meaning (job_of run) w inner × InnerWhy meaning inner Inner) → ⊥
          by_work None rule = rule
          by_work (Some w) rule = rule.1 (inside fault.place inner is (same_Some _ _ same))

      by_fault : (o : Option Faulted) → first_fault (journal_of run) ≡ o → reason_by run within o ≡ Fine → IsFine (journal_of run)
      by_fault None none same = fine_counts (meaning.limit (job_of run)) (journal_of run) none same
      by_fault (Some fault) some same =
          let told : TellsFine fault.why (within fault) = faulted_fine (unwrap_or (start_at (journal_of run) fault.start) 0) fault.why (within fault) same in
          absurd (by_run fault (first_at 0 (journal_of run) fault some) told.tells (inner_at run fault.place) refl (sym (reason_inside (out-FrameRun J V run).inner.items fault.place) ∙ told.fine))

  row_here : (row : InnerRow J V) (rest : List (InnerRow J V)) (n : ℕ) (inner : FrameRun J V)
      → (run_reason meaning (out-InnerRow J V row).run ≡ Fine → IsFine (journal_of (out-InnerRow J V row).run))
      → (inner_in rest n ≡ Some inner → run_reason meaning inner ≡ Fine → IsFine (journal_of inner))
      → inner_in (row ∷ rest) n ≡ Some inner → run_reason meaning inner ≡ Fine → IsFine (journal_of inner)
  row_here row rest n inner here later = by_place ((out-InnerRow J V row).place == n)
    where
      by_place : (b : Bool) → cond b (Some (out-InnerRow J V row).run) (inner_in rest n) ≡ Some inner → run_reason meaning inner ≡ Fine → IsFine (journal_of inner)
      by_place true at is = let same : (out-InnerRow J V row).run ≡ inner = same_Some _ _ at in subst (λ r. run_reason meaning r ≡ Fine → IsFine (journal_of r)) same here is
      by_place false at is = later at is

  mutual
    -- a legal run whose reason is fine is fine
    pub reason_counts : (run : FrameRun J V) → Legal meaning run → run_reason meaning run ≡ Fine → IsFine (journal_of run)
    reason_counts (FrameRun' job journal values shape rows) legal =
        by_inside (FrameRun' job journal values shape rows) legal
        (λ n inner at. rows_count rows legal.2 n inner
        (ap (λ items. inner_in items n) (sym (items_shown-the_row-InnerRow-0 J V shape rows)) ∙ ap (λ (l : FrameRun-F J V (FrameRun J V) (InnerRow J V)). inner_in l.inner.items n) (sym (outs-FrameRun' job journal values shape rows)) ∙ at))

    pub rows_count : {m : _} (rows : Row_of-InnerRow J V m) → LegalRows meaning rows → (n : ℕ) (inner : FrameRun J V) → inner_in (items-the_row-InnerRow J V m rows) n ≡ Some inner
        → run_reason meaning inner ≡ Fine → IsFine (journal_of inner)
    rows_count end_of-InnerRow legal n inner at is = absurd (none-some inner at)
    rows_count (more_of-InnerRow row rest) legal n inner at is = row_here row (items-the_row-InnerRow J V _ rest) n inner (row_counts row legal.0) (rows_count rest legal.1 n inner) at is

    pub row_counts : (row : InnerRow J V) → LegalRow meaning row → run_reason meaning (out-InnerRow J V row).run ≡ Fine → IsFine (journal_of (out-InnerRow J V row).run)
    row_counts (InnerRow' place run) legal is =
        subst (λ (r : InnerRow-F J V (FrameRun J V) (InnerRow J V)). run_reason meaning r.run ≡ Fine → IsFine (journal_of r.run)) (sym (outs-InnerRow' place run)) (reason_counts run legal.0) is

-- What reads that stopped a call have done.
use Rattle.std.proofs.Common.{◌≡◌, inl, inr, refl, ℕ, List, [], ◌∷◌, ◌++◌, length, ap, ◌∙◌, arith, subst, sym, length-append}
use Rattle.call_status.specs.declared.status.Status.{Status}
use Rattle.call_status.specs.declared.status.Status.TheVariants.{BadWords, ReadFault}
use Rattle.call_status.specs.declared.stop.Stop.{Stop}
use Rattle.call_status.specs.declared.stop.Stop.TheVariants as stop
use Rattle.call_status.specs.Statuses.{status_of}
use Rattle.nested_runs.specs.declared.reasons.Reason.{Reason}
use Rattle.nested_runs.specs.declared.reasons.Reason.TheVariants as reason
use Rattle.flow_run.specs.Answers.{GenerateEnds, IsAfterRun}
use Rattle.flow_run.specs.Requests.{SourceTexts}
use Rattle.flow_run.specs.RoundTexts.{TextRun, last_reason}
use Rattle.flow_run.specs.Reads.{FailsWith, HaveRead}

-- No command that was asked for is told that it asks for nothing.
never_bad : (why : Stop) → status_of why ≡ BadWords → ⊥
never_bad (stop.BadGraph error) same = absurd (cc)
never_bad (stop.NoSource spot) same = absurd (cc)
never_bad (stop.NoText n) same = absurd (cc)
never_bad (stop.LongText n) same = absurd (cc)
never_bad (stop.ReadFault n) same = absurd (cc)
never_bad (stop.BadJournal line) same = absurd (cc)
never_bad stop.NoMemory same = absurd (cc)

-- What stopped the reads is told.
pub read_stopped : {F : Type 0} (held : F → SourceTexts) (failed : F → List (List ℕ)) (old new : F) (why : Stop) (status : Status) → status ≡ status_of why
    → held new ≡ held old → FailsWith (status_of why) (failed old) (failed new) → HaveRead held failed old new status
read_stopped held failed old new why status is stays fails = record {
  stays = stays;
  fails = subst (λ (s : Status). FailsWith s (failed old) (failed new)) (sym is) fails;
  untouched = λ bad. absurd (never_bad why (sym is ∙ bad));
}

-- Where no read failed none is reported.
pub no_read_fault : {F : Type 0} (held : F → SourceTexts) (failed : F → List (List ℕ)) (old new : F) (status : Status) → HaveRead held failed old new status
    → failed new ≡ failed old → (n : List ℕ) → status ≡ ReadFault n → ⊥
no_read_fault held failed old new status read same n is =
    let more : failed new ≡ failed old ++ n ∷ [] = subst (λ (s : Status). FailsWith s (failed old) (failed new)) is read.fails in
    absurd (omega (arith, ap length (sym same ∙ more), length-append (failed old) (n ∷ [])))

-- After a run no read is told to have failed.
fails_after_run : (why : Reason) (status : Status) (names : List (List ℕ)) → IsAfterRun why status → FailsWith status names names
fails_after_run reason.Fine status names (inl told) = subst (λ (s : Status). FailsWith s names names) (sym told) refl
fails_after_run (reason.Fault path y) status names (inl told) = subst (λ (s : Status). FailsWith s names names) (sym told) refl
fails_after_run (reason.Limit path most) status names (inl told) = subst (λ (s : Status). FailsWith s names names) (sym told) refl
fails_after_run (reason.Stuck path) status names (inl told) = subst (λ (s : Status). FailsWith s names names) (sym told) refl
fails_after_run why status names (inr (inl (fine, failed))) = subst (λ (s : Status). FailsWith s names names) (sym failed) refl
fails_after_run why status names (inr (inr memory)) = subst (λ (s : Status). FailsWith s names names) (sym memory) (inl refl)

-- For a generated graph nothing is read.
pub nothing_is_read : {F : Type 0} (held : F → SourceTexts) (failed : F → List (List ℕ)) (texts : F) (layers : ℕ) (status : Status) (runs : List TextRun) → GenerateEnds layers status runs → HaveRead held failed texts texts status
nothing_is_read held failed texts layers status runs (inl stopped) = record {
  stays = refl;
  fails = subst (λ (s : Status). FailsWith s (failed texts) (failed texts)) (sym stopped.0) (inl refl);
  untouched = λ bad. refl;
}
nothing_is_read held failed texts layers status runs (inr ran) = record { stays = refl; fails = fails_after_run (last_reason runs) status (failed texts) ran.after; untouched = λ bad. refl }

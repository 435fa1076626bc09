-- The journal of a kept run has one verdict.
use Rattle.std.proofs.Common.{◌≡◌, ℕ, zero, suc, List, [], ◌∷◌, ◌++◌, Option, Some, None, refl, sym, subst}
use Rattle.std.specs.Prelude.{slice_get, take, IsSomeAnd}
use Rattle.std.proofs.lemmas.List.{append-nil, append_assoc}
use Rattle.std.proofs.lemmas.Option.{none-some}
use Rattle.task_graph.specs.NetRows.{NetRows}
use Rattle.task_graph.specs.Net.{IsNet}
use Rattle.journal_rules.specs.declared.entry.Entry.{Entry}
use Rattle.journal_rules.specs.Entries.{EachAfterThese}
use Rattle.journal_rules.specs.ShapeLegal.{ShapeLegal, MayFollow}
use Rattle.journal_rules.specs.Complete.{Complete}
use Rattle.legal_run.specs.declared.verdict.Break.{Break}
use Rattle.legal_run.specs.declared.verdict.Verdict.{Verdict}
use Rattle.legal_run.specs.declared.verdict.Verdict.TheVariants.{Complete as Finished, Legal, Breaks}
use Rattle.legal_run.specs.Refusal.{IsRefusal}
use Rattle.legal_run.specs.Verdict.{IsVerdict}
use Rattle.legal_run.proofs.Refusing.{breaks_nothing}
use Rattle.journal_rules.proofs.Reaching.{reached_legal}
use Rattle.run_frame.specs.declared.run.FrameRun.{FrameRun}
use Rattle.run_frame.specs.Legal.{IsKept, Legal as LegalRun}
use Rattle.run_frame.specs.Meaning.{Meaning}
use Rattle.run_frame.specs.NestedRule.{job_of, journal_of}
use Rattle.run_laws.proofs.Runs.{legal_journal}
use Rattle.run_laws.specs.JudgeLaw.{IsJudgedComplete}

-- Each item meets the rule after the items in front of it, and these are legal too.
met_after : {X : Type 0} (Rule : List X → X → Type 0) (before xs : List X) (n : ℕ) (x : X) → EachAfterThese Rule before xs → slice_get xs n ≡ Some x → EachAfterThese Rule before (take n xs) × Rule (before ++ take n xs) x
met_after Rule before [] n x each is = absurd (none-some x is)
met_after Rule before (y ∷ ys) zero x each is = (tt, subst (λ b. Rule b x) (sym (append-nil before)) (subst (λ z. Rule before z) (let e : y ≡ x = cc in e) each.0))
met_after Rule before (y ∷ ys) (suc n) x each is =
    let met = met_after Rule (before ++ y ∷ []) ys n x each.1 is in
    ((each.0, met.0), subst (λ b. Rule b x) (append_assoc before (y ∷ []) (take n ys)) met.1)

-- a legal journal has no entry that is refused
no_break : (net : NetRows) (limit : ℕ) (journal : List Entry) (n : ℕ) (why : Break) → IsNet net → ShapeLegal net limit journal → (o : Option Entry) → slice_get journal n ≡ o → ¬ IsSomeAnd o (λ entry. IsRefusal net limit (take n journal) entry why)
no_break net limit journal n why rows legal None is refusal = refusal
no_break net limit journal n why rows legal (Some x) is refusal =
    let met = met_after (MayFollow net limit) [] journal n x legal is in
    breaks_nothing net limit (take n journal) x why (reached_legal net limit (take n journal) rows met.0) met.1 refusal.breaks

one_verdict : (net : NetRows) (limit : ℕ) (journal : List Entry) → IsNet net → ShapeLegal net limit journal → Complete net limit journal → (verdict : Verdict) → IsVerdict net limit journal verdict → verdict ≡ Finished
one_verdict net limit journal rows legal complete Finished is = refl
one_verdict net limit journal rows legal complete Legal is = absurd (is.1 complete)
one_verdict net limit journal rows legal complete (Breaks n why) is = absurd (no_break net limit journal n why rows legal (slice_get journal n) refl is.1)

pub judges_kept : {J V : Type 0} (meaning : Meaning J V) (run : FrameRun J V) → IsNet (meaning.net (job_of run)) → IsKept meaning run → IsJudgedComplete meaning run
judges_kept meaning run rows kept =
    let shape = (legal_journal meaning run kept.legal).shape in
    record {
      complete = (shape, kept.complete);
      only = one_verdict (meaning.net (job_of run)) (meaning.limit (job_of run)) (journal_of run) rows shape kept.complete;
    }

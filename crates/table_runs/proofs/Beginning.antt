-- Runs that begin with no release.
use Rattle.std.proofs.Common.{◌≡◌, ℕ, zero, suc, List, [], ◌∷◌, ◌++◌, length, map, Some, refl, sym, ap, ◌∙◌, subst, arith}
use Rattle.atomic_table.specs.Seated.{TableId}
use Rattle.journal_rules.specs.declared.entry.Cause.{Cause}
use Rattle.task_graph.specs.NetRows.{NetRows}
use Rattle.join_tables.specs.FirstCauses.{first_causes, first_fresh}
use Rattle.join_tables.specs.States.{fresh_state}
use Rattle.run_frame.specs.Meaning.{Meaning}
use Rattle.run_frame.specs.NestedRule.{job_of}
use Rattle.run_frame.specs.declared.run.FrameRun.{FrameRun}
use Rattle.table_runs.specs.Begins.{Begins}
use Rattle.table_runs.specs.Openings.{HasNoFirst, IsOverAtOnce}
use Rattle.nested_runs.specs.Totals.{all_spans}
use Rattle.table_runs.specs.RunKeys.{FrameKey}
use Rattle.table_runs.specs.Spans.{spans_kept}
use Rattle.table_runs.specs.declared.table_run.Begun.{Begun}

-- a list that has no length
pub none_in : {X : Type 0} (xs : List X) → length xs ≡ 0 → xs ≡ []
none_in [] none = refl
none_in (x ∷ xs) none = absurd (omega (arith, none))

-- which tasks are released at first doesn't depend on the table
no_first : (n m : TableId) (net : NetRows) (t k : ℕ) → first_fresh n net t k ≡ [] → first_fresh m net t k ≡ []
no_first n m net t zero none = refl
no_first n m net t (suc k) none = by_causes (first_causes net t) (no_first n m net (suc t) k) none
  where
    by_causes : (causes : List Cause) → (first_fresh n net (suc t) k ≡ [] → first_fresh m net (suc t) k ≡ []) → map (fresh_state n t) causes ++ first_fresh n net (suc t) k ≡ [] → map (fresh_state m t) causes ++ first_fresh m net (suc t) k ≡ []
    by_causes [] rest is = rest is
    by_causes (cause ∷ more) rest is = absurd (cc)

-- a run that begins with no release is over at once
pub over_at_once : {J V : Type 0} (meaning : Meaning J V) (job : J) (begun : Begun J V) (run : FrameRun J V) → Begins meaning job begun → begun.fresh.items ≡ [] → job_of run ≡ begun.kept.job → all_spans run ≡ spans_kept begun.kept → IsOverAtOnce meaning (Some run)
over_at_once {J} meaning job begun run begins none same spans =
    let own : job_of run ≡ job = same ∙ ap (λ (k : FrameKey J). k.job) begins.kept ∙ begins.job_is in
    record {
      no_first = subst (λ (j : J). HasNoFirst (meaning.net j)) (sym own) (λ n. no_first begun.run.table n (meaning.net job) 0 (length (meaning.net job).tasks) (sym begins.first ∙ none));
      no_spans = spans ∙ begins.no_spans;
    }

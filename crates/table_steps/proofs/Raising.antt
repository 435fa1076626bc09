-- What each step on a word asks is met.
use Rattle.std.proofs.Common.{◌≡◌, ◌≢◌, ◌⊎◌, inl, inr, ℕ, ◌+◌, true, false, List, [], ◌∷◌, ◌++◌, length, Some, eqb, sym, refl, ap, ◌∙◌, subst, arith}
use Rattle.std.proofs.lemmas.Bool.Decides.{nat_tests}
use Rattle.std.proofs.lemmas.Bool.{cases_eq}
use Rattle.std.specs.Prelude.{slice_get}
use Rattle.journal_rules.specs.declared.entry.Entry.{Entry}
use Rattle.journal_rules.proofs.Snoc.{slice_get_push_last}
use Rattle.table_steps.specs.inside.Duties.{Raised}
use Rattle.table_steps.specs.Giving.{one_if}

pub told_last : (journal : List Entry) (n : ℕ) (x : Entry) → n ≡ length journal → slice_get (journal ++ x ∷ []) n ≡ Some x
told_last journal n x is = subst (λ k. slice_get (journal ++ x ∷ []) k ≡ Some x) (sym is) (slice_get_push_last journal x)

-- a word that was set to one more is raised
pub raised_by : (f g : ℕ → ℕ) (at : ℕ) → ((k : ℕ) → k ≢ at → g k ≡ f k) → g at ≡ f at + 1 → Raised f at g
raised_by f g at others here k = by_eq (cases_eq at k)
  where
    by_eq : (at ≡ k) ⊎ (at ≢ k) → g k ≡ f k + one_if (eqb at k)
    by_eq (inl same) = let hit : eqb at k ≡ true = grind (arith, nat_tests) in ap g (sym same) ∙ here ∙ ap (λ j. f j + 1) same ∙ rw hit refl
    by_eq (inr other) = let miss : eqb at k ≡ false = grind (arith, nat_tests) in others k (λ z. other (sym z)) ∙ rw miss (omega arith)

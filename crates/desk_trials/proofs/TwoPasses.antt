-- The passes of a desk with two callers, and an ask without rounds.
use Rattle.std.proofs.Common.{◌≡◌, ◌∙◌, ℕ, zero, suc, ◌<◌, false, List, [], ◌∷◌, length, get_or, Option, Some, None, refl, sym, ap, subst, arith}
use Rattle.std.specs.Prelude.{slice_get, remove, All, IfSome}
use Rattle.std.proofs.lemmas.Option.{slice_get-get_or}
use Rattle.run_frame.specs.Meaning.{Meaning}
use Rattle.run_frame.specs.declared.run.FrameRun.{FrameRun}
use Rattle.desk_book.specs.declared.entry.Ask.{Ask}
use Rattle.desk_book.specs.Passes.{PassState}
use Rattle.desk_book.specs.States.{DeskKey}
use Rattle.desk_book.specs.Desks.{ArePassesOf, IsPassOf}
use Rattle.desk_book.specs.Rounds.{AreRounds, AreRoundsOf}

some_same : {X : Type 0} {x y : X} → Some x ≡ Some y → x ≡ y
some_same e = cc

-- the second pass and then the first are taken off a list of two
pub removed : (passes left : List PassState) (first second : PassState) → length passes ≡ 2 → second ≡ get_or passes 1 second → left ≡ remove passes 1 → first ≡ get_or left 0 first → (slice_get passes 0 ≡ Some first) × (slice_get passes 1 ≡ Some second)
removed [] left first second two is_second is_left is_first = absurd (omega (arith, two))
removed (a ∷ []) left first second two is_second is_left is_first = absurd (omega (arith, two))
removed (a ∷ b ∷ []) left first second two is_second is_left is_first = (ap Some (sym (is_first ∙ ap (λ xs. get_or xs 0 first) is_left)), ap Some (sym is_second))
removed (a ∷ b ∷ c ∷ rest) left first second two is_second is_left is_first = absurd (omega (arith, two))

pub both_passes : {J : Type 0} (desk : DeskKey J) (passes : List PassState) (first second : PassState) → desk.callers ≡ 2 → IsPassOf desk first → first.caller ≡ 0 → IsPassOf desk second → second.caller ≡ 1 → passes ≡ first ∷ second ∷ [] → ArePassesOf desk passes
both_passes desk passes first second two own zeroth other oneth same = record {
  count = ap length same ∙ sym two;
  each = λ c p at. by_place c p (ap (λ ps. slice_get ps c) (sym same) ∙ at);
}
  where
    by_place : (c : ℕ) (p : PassState) → slice_get (first ∷ second ∷ []) c ≡ Some p → IsPassOf desk p × (p.caller ≡ c)
    by_place zero p at = subst (λ (q : PassState). IsPassOf desk q × (q.caller ≡ 0)) (some_same at) (own, zeroth)
    by_place (suc zero) p at = subst (λ (q : PassState). IsPassOf desk q × (q.caller ≡ 1)) (some_same at) (other, oneth)
    by_place (suc (suc c)) p at = absurd (cc)

pub no_rounds : {J V : Type 0} (meaning : Meaning J V) (jobs : List J) (ask : Ask) (runs : List (FrameRun J V)) → runs ≡ [] → AreRoundsOf meaning jobs ask false runs
no_rounds {J} {V} meaning jobs ask runs none = subst (AreRoundsOf meaning jobs ask false) (sym none) (by_job (slice_get jobs ask.graph))
  where
    by_job : (o : Option J) → IfSome o (λ job. AreRounds meaning false job ask.times [])
    by_job None = tt
    by_job (Some job) = record {
      rounds = record { kept = λ n d below. absurd (omega (arith, below)); first = tt; next = λ n. tt };
      few = omega arith;
      went_on = λ n below. absurd (omega (arith, below));
    }

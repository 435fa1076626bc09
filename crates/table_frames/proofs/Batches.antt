-- Turns of the first of some frames, where there is none.
use Rattle.std.proofs.Common.{◌≡◌, ◌≢◌, ℕ, ◌+◌, List, [], ◌∷◌, ◌++◌, Option, Some, None, refl, sym, ◌∙◌, subst, arith}
use Rattle.std.specs.Prelude.{IfSome}
use Rattle.std.specs.Option.{option_or}
use Rattle.span_book.specs.SpanBooks.{SpansState}
use Rattle.run_frame.specs.Meaning.{Meaning}
use Rattle.table_runs.proofs.Keeping.{no_run}
use Rattle.table_runs.specs.DoneTurns.{HasSame, IsNoTurn}
use Rattle.table_runs.specs.RunKeys.{FrameKey}
use Rattle.table_runs.specs.declared.done_turns.DoneTurns.{DoneTurns}
use Rattle.table_runs.specs.Spans.{spans_inside}
use Rattle.table_frames.specs.inside.FrameBatches.{AreDoneAt, HasBack, IsBackOf}
use Rattle.table_frames.proofs.Taking.{none_inside}

pub no_turn_left : {J V : Type 0} (meaning : Meaning J V) (frames : List (FrameKey J)) (done : DoneTurns J V) → done.batch.table ≡ None → done.batch.fates ≡ [] → AreDoneAt meaning frames done → IsNoTurn done
no_turn_left meaning [] done table fates none = none
no_turn_left meaning (frame ∷ around) done table fates all = record { table = table; fates = fates; inner = no_run meaning frame.job done.batch.fates done.inner.items fates all.allowed }

pub same_none : {J V : Type 0} (old new : DoneTurns J V) → HasSame old new → IsNoTurn old → IsNoTurn new
same_none old new same none = record { table = same.table ∙ none.table; fates = same.fates ∙ none.fates; inner = same.inner ∙ none.inner }

not_empty : {X : Type 0} (xs : List X) (x : X) → xs ++ x ∷ [] ≢ []
not_empty [] x = λ none. absurd (cc)
not_empty (y ∷ ys) x = λ none. absurd (cc)

-- no turn, and so no run inside
pub none_back : {J V : Type 0} (frames : List (FrameKey J)) (done : DoneTurns J V) (returned : Option SpansState) → IsNoTurn done → returned ≡ None → IsBackOf frames done returned
none_back frames done returned none is = subst (IsBackOf frames done) (sym is) (record { back = record { is = tt; spans = sym (none_inside done none) }; some = tt })

pub no_back : {J V : Type 0} (frames : List (FrameKey J)) (done : DoneTurns J V) (returned : Option SpansState) → done.batch.fates ≡ [] → IsBackOf frames done returned → returned ≡ None
no_back frames done None none is = refl
no_back frames done (Some inner) none is = absurd (is.some none)

-- one more turn, with the run in place of its work that has come back
pub one_more_back : {J V : Type 0} (frames : List (FrameKey J)) (done done' : DoneTurns J V) (made : ℕ) (fate : _) (returned before : Option SpansState) → IsBackOf frames done before → HasBack frames made returned → IfSome returned (λ inner. done.batch.fates ≡ []) → spans_inside done' ≡ spans_inside done + made → done'.batch.fates ≡ done.batch.fates ++ fate ∷ []
    → IsBackOf frames done' (option_or returned before)
one_more_back frames done done' made fate None before is back one spans fates = record { back = record { is = is.back.is; spans = omega (arith, is.back.spans, back.spans) }; some = by_before before }
  where
    by_before : (b : Option SpansState) → IfSome b (λ inner. done'.batch.fates ≢ [])
    by_before None = tt
    by_before (Some inner) = λ none. not_empty done.batch.fates fate (sym fates ∙ none)
one_more_back frames done done' made fate (Some inner) None is back one spans fates = record { back = record { is = back.is; spans = omega (arith, is.back.spans, back.spans) }; some = λ none. not_empty done.batch.fates fate (sym fates ∙ none) }
one_more_back frames done done' made fate (Some inner) (Some other) is back one spans fates = absurd (is.some one)

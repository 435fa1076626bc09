-- What a watcher is told where a run by one thread goes on.
use Rattle.std.proofs.Common.{◌≡◌, ℕ, ◌+◌, ◌-◌, ◌^◌, ◌<◌, ◌≤◌, ◌++◌, ◌∷◌, [], Option, Some, None, min, refl, sym, ap, ◌∙◌, subst, arith}
use Rattle.std.specs.Prelude.{Result, Ok, Err, IfOk, OnOk}
use Rattle.std.proofs.Math.Nat.{min-eq_left}
use Rattle.join_tables.specs.declared.fates.Fate.{Fate}
use Rattle.run_frame.specs.Meaning.{Meaning}
use Rattle.run_frame.specs.declared.run.FrameRun.{FrameRun}
use Rattle.span_profile.specs.Watch.{IsToldSince, TellsOn, one_more}
use Rattle.join_tables.specs.declared.fates.Fate.TheVariants.{AllDropped, Dropped, Ended, Faulted}
use Rattle.table_runs.specs.Openings.{IsOverAtOnce}
use Rattle.table_frames.specs.inside.Benches.{spans_told}
use Rattle.table_runs.specs.Spans.{span_of, spans_done, spans_in, spans_inside, spans_made}
use Rattle.table_runs.specs.declared.done_turns.DoneTurns.{DoneTurns}
use Rattle.table_runs.proofs.Counting.{spans_append}

-- a count goes up to this number
abbrev most : ℕ
most = 2 ^ 64 - 1

-- a watcher that counted one more was told one more
pub tells_one : {A E X : Type 0} (told : X → ℕ) (r : Result A E) (old new : X) → OnOk r (told new ≡ one_more (told old)) → OnOk r ((n : ℕ) → TellsOn told n (n + 1) old new)
tells_one told (Ok a) old new more = λ n before is. omega (arith, more, is)
tells_one told (Err e) old new more = tt

-- what holds in any case
pub in_any_case : {A E : Type 0} {P : Type 0} (r : Result A E) → P → OnOk r P
in_any_case (Ok a) p = p
in_any_case (Err e) p = tt

-- so many more
pub tells_more : {A E X : Type 0} (told : X → ℕ) (r : Result A E) (m n k : ℕ) (old new : X) → n ≡ m + k → OnOk r ((p : ℕ) → TellsOn told p (p + k) old new) → OnOk r (TellsOn told m n old new)
tells_more told (Ok a) m n k old new is tells = subst (λ p. TellsOn told m p old new) (sym is) (tells m)
tells_more told (Err e) m n k old new is tells = tt

-- the span of a fate is told where it ends one
pub told_of_fate : {V : Type 0} (depth : ℕ) (fate : Fate V) → spans_told (span_of depth fate) ≡ spans_in (fate ∷ [])
told_of_fate depth (Ended e) = refl
told_of_fate depth (Faulted f) = refl
told_of_fate depth (Dropped d) = refl
told_of_fate depth (AllDropped drops) = refl

-- where as many spans are there as before, it need be told none
pub tells_same : {X : Type 0} (told : X → ℕ) (m n : ℕ) (watcher : X) → m ≡ n → TellsOn told m n watcher watcher
tells_same told m n watcher same before is = is ∙ ap (λ (k : ℕ). min (before + k) most) same

-- one after another
pub tells_then : {X : Type 0} (told : X → ℕ) (m n p : ℕ) (first second third : X) → TellsOn told m n first second → TellsOn told n p second third → TellsOn told m p first third
tells_then told m n p first second third tells then before is = then before (tells before is)

-- beside spans that were told before
pub tells_beside : {X : Type 0} (told : X → ℕ) (m n k p q : ℕ) (old new : X) → p ≡ m + k → q ≡ n + k → TellsOn told m n old new → TellsOn told p q old new
tells_beside told m n k p q old new from to tells before is =
    let first : before + p ≡ before + k + m = omega (arith, from) in
    let last : before + k + n ≡ before + q = omega (arith, to) in
    tells (before + k) (is ∙ ap (λ (s : ℕ). min s most) first) ∙ ap (λ (s : ℕ). min s most) last

-- where it ends well
pub tells_then_ok : {A E X : Type 0} (told : X → ℕ) (spans : A → ℕ) (m n : ℕ) (r : Result A E) (first second third : X) → TellsOn told m n first second
    → IfOk r (λ a. TellsOn told n (spans a) second third) → IfOk r (λ a. TellsOn told m (spans a) first third)
tells_then_ok told spans m n (Ok a) first second third tells then = tells_then told m n (spans a) first second third tells then
tells_then_ok told spans m n (Err e) first second third tells then = tt

-- from the beginning
pub tells_all : {A E X : Type 0} (told : X → ℕ) (spans : A → ℕ) (m : ℕ) (r : Result A E) (old new : X) → m ≡ 0 → told old < 2 ^ 64
    → IfOk r (λ a. TellsOn told m (spans a) old new) → IfOk r (λ a. IsToldSince told (told old) (spans a) new)
tells_all told spans m (Ok a) old new none small tells =
    let same : told old + m ≡ told old = omega (arith, none) in
    let few : told old ≤ most = omega (arith, small) in
    tells (told old) (sym (ap (λ (k : ℕ). min k most) same ∙ min-eq_left few))
tells_all told spans m (Err e) old new none small tells = tt

-- a run that was over at once has no spans
pub none_over_at_once : {J V : Type 0} (meaning : Meaning J V) (run : Option (FrameRun J V)) → IsOverAtOnce meaning run → spans_made run ≡ 0
none_over_at_once meaning None over = refl
none_over_at_once meaning (Some run) over = over.no_spans

-- the spans of turns that are done, once one more is
pub spans_more : {J V : Type 0} (old new : DoneTurns J V) (fate : Fate V) (inner : Option (FrameRun J V)) → new.batch.fates ≡ old.batch.fates ++ fate ∷ []
    → spans_inside new ≡ spans_inside old + spans_made inner → spans_done new ≡ spans_done old + spans_made inner + spans_in (fate ∷ [])
spans_more old new fate inner fates inside =
    let more = ap spans_in fates ∙ spans_append old.batch.fates (fate ∷ []) in
    omega (arith, more, inside)

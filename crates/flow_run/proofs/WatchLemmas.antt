-- What watchers were told whose first ones were away for a while.
use Rattle.std.proofs.Common.{◌≡◌, ◌≢◌, ℕ, ◌+◌, ◌≤◌, ◌++◌, List, [], length, min, take, drop, inl, inr, sym, ap, ◌∙◌, subst, arith}
use Rattle.std.specs.Prelude.{IsTrue, false}
use Rattle.std.proofs.lemmas.Bool.{cases_lt}
use Rattle.std.proofs.lemmas.List.{append-nil, drop_all, drop_at, length-append, nil_from_length, take_all, take_at}
use Rattle.call_status.specs.declared.status.Status.{Status}
use Rattle.call_status.specs.declared.status.Status.TheVariants.{NoMemory}
use Rattle.topology_runs.specs.Told.{AreToldRounds}
use Rattle.flow_run.specs.declared.call.Ended.{Ended}
use Rattle.flow_run.specs.declared.workers.RoundsRun.{RoundsRun}
use Rattle.flow_run.specs.RoundTexts.{TextRun}
use Rattle.flow_run.specs.Watched.{HaveSeen}

-- Where nothing was run they are as they were.
pub unseen : {X : Type 0} (told : X → ℕ) (workers : ℕ) (AreAll : Type 0) (old new : List X) → new ≡ old → HaveSeen told workers AreAll [] old new
unseen told workers AreAll old new same = record { seen = λ all some. ap (take workers) same; others = ap (drop workers) same; count = ap length same }

-- So it is where no round was run,
pub unseen_rounds : {X : Type 0} (told : X → ℕ) (workers : ℕ) (ran : RoundsRun) (old new : List X) → ran ≡ record { runs = []; whole = false } → new ≡ old
    → HaveSeen told workers (IsTrue ran.whole) ran.runs old new
unseen_rounds told workers ran old new none same = subst (λ (these : RoundsRun). HaveSeen told workers (IsTrue these.whole) these.runs old new) (sym none) (unseen told workers _ old new same)

-- and where a call ends without a run.
pub unseen_end : {X : Type 0} (told : X → ℕ) (workers : ℕ) (AreAll : Type 0) (end : Ended) (old new : List X) → end.runs ≡ [] → new ≡ old → HaveSeen told workers AreAll end.runs old new
unseen_end told workers AreAll end old new none same = subst (λ runs. HaveSeen told workers AreAll runs old new) (sym none) (unseen told workers AreAll old new same)

-- What rounds have told, where a call ends with them: unless memory ran out they are all.
pub seen_end : {X : Type 0} (told : X → ℕ) (workers : ℕ) (AreAll : Type 0) (status : Status) (runs : List TextRun) (end : Ended) (old new : List X)
    → end.status ≡ status → end.runs ≡ runs → (status ≢ NoMemory → AreAll) → HaveSeen told workers AreAll runs old new → HaveSeen told workers (end.status ≢ NoMemory) end.runs old new
seen_end told workers AreAll status runs end old new status_is runs_are all have =
    subst (λ these. HaveSeen told workers (end.status ≢ NoMemory) these old new) (sym runs_are)
    (record { seen = λ some. have.seen (all (λ same. some (status_is ∙ same))); others = have.others; count = have.count })

-- as many items at the front as there are, or as were asked for
front_parts : {X : Type 0} (front rest : List X) (n : ℕ) → length front ≡ min (length (front ++ rest)) n → (take n (front ++ rest) ≡ front) × (drop n (front ++ rest) ≡ rest)
front_parts front rest n few = elim (cases_lt (length (front ++ rest)) n) [
  | inl all ↦
      let none : rest ≡ [] = nil_from_length rest (omega (arith, all, few, length-append front rest)) in (
        take_all n (front ++ rest) (omega (arith, all)) ∙ ap (λ xs. front ++ xs) none ∙ append-nil front,
        drop_all n (front ++ rest) (omega (arith, all)) ∙ sym none,
      )
  | inr enough ↦
      let same : length front ≡ n = omega (arith, enough, few) in
      (take_at front rest n same, drop_at front rest n same)
]

-- Watchers that were taken off the front and told rounds, and put back.
seen_in_front : {X : Type 0} (told : X → ℕ) (workers : ℕ) (AreAll : Type 0) (runs : List TextRun) (old new front rest after : List X)
    → front ++ rest ≡ old → length front ≡ min (length old) workers → new ≡ after ++ rest → length after ≡ length front
    → (AreAll → front ≢ [] → AreToldRounds told runs front after) → HaveSeen told workers AreAll runs old new
seen_in_front told workers AreAll runs old new front rest after were few are same rounds =
    let before = front_parts front rest workers (few ∙ ap (λ xs. min (length xs) workers) (sym were)) in
    let count : length (after ++ rest) ≡ length (front ++ rest) = length-append after rest ∙ ap (λ n. n + length rest) same ∙ sym (length-append front rest) in
    let now = front_parts after rest workers (same ∙ few ∙ ap (λ n. min n workers) (ap length (sym were) ∙ sym count)) in
    let first : take workers old ≡ front = ap (take workers) (sym were) ∙ before.0 in
    let first_now : take workers new ≡ after = ap (take workers) are ∙ now.0 in
    record {
      seen = λ all some.
          subst (λ xs. AreToldRounds told runs xs (take workers new)) (sym first)
          (subst (AreToldRounds told runs front) (sym first_now) (rounds all (λ none. some (first ∙ none))));
      others = ap (drop workers) are ∙ now.1 ∙ sym before.1 ∙ ap (drop workers) were;
      count = ap length are ∙ count ∙ ap length were;
    }

-- So it is where a team had them, the first ones before and the last ones after the rounds.
pub seen_by_team : {X : Type 0} (told : X → ℕ) (workers : ℕ) (AreAll : Type 0) (runs : List TextRun) (old new front rest after first last : List X)
    → front ++ rest ≡ old → length front ≡ min (length old) workers → new ≡ after ++ rest → first ≡ front → after ≡ last → length last ≡ length first
    → (AreAll → first ≢ [] → AreToldRounds told runs first last) → HaveSeen told workers AreAll runs old new
seen_by_team told workers AreAll runs old new front rest after first last were few are first_is after_is same rounds =
    seen_in_front told workers AreAll runs old new front rest after were few are (ap length after_is ∙ same ∙ ap length first_is)
    (λ all some.
    subst (λ xs. AreToldRounds told runs xs after) first_is
    (subst (λ ys. AreToldRounds told runs first ys) (sym after_is) (rounds all (λ none. some (sym first_is ∙ none)))))

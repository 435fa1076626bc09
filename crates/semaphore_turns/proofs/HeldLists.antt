-- The units that a turn takes, one after the other, and puts back.
use Rattle.std.proofs.Common.{◌≡◌, ℕ, ◌+◌, ◌<◌, ◌≤◌, true, eqb, List, [], ◌∷◌, length, take, refl, sym, ap, ◌∙◌, subst, arith, get_or}
use Rattle.std.specs.Prelude.{reverse, slice_get, IsSomeAnd}
use Rattle.std.specs.List.Sorted.{IsStrictlyIncreasing}
use Rattle.std.proofs.lemmas.Bool.Decides.{nat_tests}
use Rattle.std.proofs.lemmas.List.{take_more, take_all, reverse-append}
use Rattle.std.proofs.lemmas.Option.{slice_get-get_or}
use Rattle.task_graph.specs.NetRows.{NetRows}
use Rattle.journal_rules.specs.SemaphoreRule.{max_of}
use Rattle.table_steps.specs.Giving.{one_if, times}
use Rattle.table_steps.specs.Holding.{without}
use Rattle.table_steps.proofs.Counting.{times_append}
use Rattle.join_tables.specs.Findings.{FindsOne}
use Rattle.join_tables.specs.States.{TurnState}
use Rattle.semaphore_turns.specs.Semaphores.{taken_by}
use Rattle.semaphore_turns.specs.HeldUnits.{FoundNone, HoldsAll}
use Rattle.semaphore_turns.proofs.UnitCounts.{takes_is, times_once}

module _ (xs : List ℕ) (n : ℕ) (below : n < length xs) where
  pub first_held : (held : List ℕ) → held ≡ reverse (take n xs) → get_or xs n 0 ∷ held ≡ reverse (take (n + 1) xs)
  first_held held is = ap (λ l. get_or xs n 0 ∷ l) is ∙ sym (ap reverse (take_more xs n 0 below) ∙ reverse-append (take n xs) (get_or xs n 0 ∷ []))

  newest : (held : List ℕ) → held ≡ reverse (take (n + 1) xs) → held ≡ get_or xs n 0 ∷ reverse (take n xs)
  newest held is = is ∙ sym (first_held (reverse (take n xs)) refl)

  pub held_there : (held : List ℕ) → held ≡ reverse (take (n + 1) xs) → 1 ≤ times (get_or xs n 0) held
  held_there held is =
      let x = get_or xs n 0 in
      let hit : eqb x x ≡ true = grind (arith, nat_tests) in
      omega (arith, ap (times x) (newest held is), ap one_if hit)

  pub put_first : (held : List ℕ) → held ≡ reverse (take (n + 1) xs) → without (get_or xs n 0) held ≡ reverse (take n xs)
  put_first held is = ap (without (get_or xs n 0)) (newest held is) ∙ head (get_or xs n 0) (reverse (take n xs))
    where
      head : (x : ℕ) (l : List ℕ) → without x (x ∷ l) ≡ l
      head x l = let hit : eqb x x ≡ true = grind (arith, nat_tests) in rw hit refl

times_reverse : (s : ℕ) (xs : List ℕ) → times s (reverse xs) ≡ times s xs
times_reverse s [] = refl
times_reverse s (x ∷ xs) = omega (arith, ap (times s) (reverse-append (x ∷ []) xs), times_append s (reverse xs) (x ∷ []), times_reverse s xs)

-- a turn that has a unit of each semaphore of its task's list
pub holds_all : (net : NetRows) (turn : TurnState) (n : ℕ) → IsStrictlyIncreasing (taken_by net turn.task) → length (taken_by net turn.task) ≤ n → turn.held ≡ reverse (take n (taken_by net turn.task)) → HoldsAll net turn
holds_all net turn n rising all held =
    let whole : turn.held ≡ reverse (taken_by net turn.task) = held ∙ ap reverse (take_all n (taken_by net turn.task) all) in
    record {
      held = whole;
      each = λ s. ap (times s) whole ∙ times_reverse s (taken_by net turn.task) ∙ times_once s (taken_by net turn.task) rising ∙ ap one_if (takes_is net turn.task s);
    }

-- a turn whose last step found no unit
pub found_none : (net : NetRows) (xs : List ℕ) (place sem : ℕ) (before : List ℕ) (turn : TurnState) → place < length xs → sem ≡ get_or xs place 0 → FindsOne (λ n. max_of net sem ≤ n) before turn.found → IsSomeAnd (slice_get xs place) (λ s. FoundNone net s turn)
found_none net xs place sem before turn below is finds =
    subst (λ o. IsSomeAnd o (λ s. FoundNone net s turn)) (sym (slice_get-get_or xs place 0 below)) (subst (λ s. FoundNone net s turn) is (by_found turn.found finds))
  where
    by_found : (found : List ℕ) → FindsOne (λ n. max_of net sem ≤ n) before found → IsSomeAnd (slice_get found 0) (λ n. max_of net sem ≤ n)
    by_found [] f = absurd f
    by_found (n ∷ rest) f = f.1

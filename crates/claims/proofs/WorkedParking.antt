-- What a yard has after turns of `WorkedTurns`' net were parked, woken and settled: task 0 takes semaphores 0 and 2,
-- task 2 takes 0.
use Rattle.std.proofs.Common.{◌≡◌, ◌≢◌, ℕ, zero, suc, ◌+◌, List, [], ◌∷◌, ◌++◌, length, take, Option, Some, None, refl, ap, sym, subst, ◌∙◌, arith}
use Rattle.std.specs.Prelude.{slice_get}
use Rattle.std.specs.Global.{Global}
use Rattle.std.specs.declared.snapshot.Snapshot.{Snapshot}
use Rattle.std.specs.declared.vec.Vec.{Vec}
use Rattle.std.proofs.lemmas.List.Elements.{All-from_recursion, All-head}
use Rattle.std.proofs.lemmas.List.Sorted.{IsPermutation-refl, length_permutation}
use Rattle.atomic_table.specs.Seated.{TableId}
use Rattle.journal_rules.specs.declared.entry.Cause.TheVariants.{Source, Strong}
use Rattle.journal_rules.specs.declared.entry.DropWhy.TheVariants.{Stuck}
use Rattle.join_tables.specs.States.{TableState, FreshState, TurnState, fresh_state, turn_with, spent_state}
use Rattle.join_tables.specs.declared.fates.Dropping.{Dropping}
use Rattle.join_tables.specs.declared.fates.Fate.TheVariants.{Dropped, AllDropped}
use Rattle.semaphore_park.specs.Parking.{yard_view, parked_on, with_parked}
use Rattle.semaphore_turns.specs.YardTurns.{Turns, Releases, releases_in, woken_on, left_after, woken_from, WakesFirst, passed_over, ParksLast, LeavesParked}
use Rattle.semaphore_turns.specs.Settlements.{dropped_release, DropsEach, GoesFirst, LeavesSettled}
use Rattle.semaphore_turns.specs.declared.parks.Parking.TheVariants as parking
use Rattle.semaphore_turns.specs.declared.settlement.Settled.TheVariants as settled
use Rattle.claims.proofs.WorkedTurns.{net}

passed_over_to_the_next : (passed_over (2 ∷ 5 ∷ []) (Some 5) ≡ 5 ∷ []) × (passed_over (2 ∷ 5 ∷ []) (Some 4) ≡ []) × (passed_over (2 ∷ []) None ≡ [])
passed_over_to_the_next = (refl, refl, refl)

module _ (n : TableId) where
  abbrev table : TableState
  table = record { table = n; net = net; limit = 9 }

  abbrev turn : ℕ → List ℕ → TurnState
  turn t found = turn_with n t Strong None [] found

  abbrev release : ℕ → FreshState
  release t = fresh_state n t Strong

  abbrev yard : List TurnState → List TurnState → Turns
  yard on_first on_third = yard_view table (on_first ∷ [] ∷ on_third ∷ [])

  abbrev released : List FreshState → List FreshState → Releases
  released on_first on_third = yard_view table (on_first ∷ [] ∷ on_third ∷ [])

  -- two turns wait on the first semaphore, and one on the third
  abbrev two_and_one : Turns
  two_and_one = yard (turn 2 (2 ∷ []) ∷ turn 0 (2 ∷ []) ∷ []) (turn 0 (1 ∷ []) ∷ [])

  abbrev parked : Releases
  parked = released (release 2 ∷ release 0 ∷ []) (release 0 ∷ [])

  as_releases : releases_in two_and_one ≡ parked
  as_releases = refl

  woken_there : (woken_on parked 0 ≡ released (release 0 ∷ []) (release 0 ∷ [])) × (woken_on parked 2 ≡ released (release 2 ∷ release 0 ∷ []) []) × (woken_on parked 1 ≡ parked)
  woken_there = (refl, refl, refl)

  left_in_turn : (left_after parked (0 ∷ 2 ∷ []) ≡ released (release 0 ∷ []) []) × (left_after parked (0 ∷ 0 ∷ 0 ∷ []) ≡ released [] (release 0 ∷ [])) × (left_after parked [] ≡ parked)
  left_in_turn = (refl, refl, refl)

  woken_in_turn : (woken_from parked (2 ∷ 0 ∷ []) ≡ release 0 ∷ release 2 ∷ []) × (woken_from parked (0 ∷ 1 ∷ 0 ∷ 0 ∷ []) ≡ release 2 ∷ release 0 ∷ []) × (woken_from parked [] ≡ [])
  woken_in_turn = (refl, refl, refl)

  wakes_the_first : WakesFirst (0 ∷ 2 ∷ []) two_and_one (yard (turn 0 (2 ∷ []) ∷ []) []) (release 3 ∷ []) (release 3 ∷ release 2 ∷ release 0 ∷ [])
  wakes_the_first = record { yard = refl; woken = refl }

  abbrev second_task : List FreshState → ℕ
  second_task (f ∷ g ∷ fs) = g.task
  second_task _ = 9

  wakes_the_last : ¬ WakesFirst (0 ∷ []) two_and_one (yard (turn 2 (2 ∷ []) ∷ []) (turn 0 (1 ∷ []) ∷ [])) (release 3 ∷ []) (release 3 ∷ release 0 ∷ [])
  wakes_the_last wakes = absurd (omega (arith, ap second_task wakes.woken))

  abbrev count_all : {T : Type 0} → List (List T) → ℕ
  count_all [] = 0
  count_all (l ∷ ls) = length l + count_all ls

  abbrev all_on : Turns → ℕ
  all_on y = count_all y.lists

  abbrev released_on : Releases → ℕ
  released_on y = count_all y.lists

  wakes_and_keeps : ¬ WakesFirst (0 ∷ []) two_and_one two_and_one [] (release 2 ∷ [])
  wakes_and_keeps wakes = absurd (omega (arith, ap all_on wakes.yard))

  -- A turn of task 0 lacks a unit of the third semaphore, and puts back one of the first.
  parks_last : ParksLast net 0 None (turn 0 (1 ∷ [])) (yard (turn 2 (2 ∷ []) ∷ []) []) (yard [] (turn 0 (1 ∷ []) ∷ [])) [] (release 2 ∷ [])
  parks_last = record { place = 1; sem = 2; sem_is = refl; wakes = record { yard = refl; woken = refl } }

  -- one that was woken for the third lacks one of the first: the next of the third is woken in its place
  parks_and_passes_on : ParksLast net 0 (Some 2) (turn 0 (2 ∷ [])) (yard [] (turn 0 (1 ∷ []) ∷ [])) (yard (turn 0 (2 ∷ []) ∷ []) []) [] (release 0 ∷ [])
  parks_and_passes_on = record { place = 0; sem = 0; sem_is = refl; wakes = record { yard = refl; woken = refl } }

  the_semaphore : (sem other : ℕ) → Some sem ≡ Some other → sem ≡ other
  the_semaphore sem other is = cc

  forgets_what_it_parks : ¬ ParksLast net 0 None (turn 0 (1 ∷ [])) (yard [] []) (yard [] []) [] []
  forgets_what_it_parks parks = by_place parks.place parks.sem parks.sem_is parks.wakes.yard
    where
      by_place : (place sem : ℕ) → slice_get (0 ∷ 2 ∷ []) place ≡ Some sem → yard [] [] ≡ left_after (with_parked (yard [] []) sem (parked_on (yard [] []) sem ++ turn 0 (1 ∷ []) ∷ [])) (take place (0 ∷ 2 ∷ []) ++ []) → ⊥
      by_place zero sem is left =
          let kept = subst (λ s. yard [] [] ≡ with_parked (yard [] []) s (parked_on (yard [] []) s ++ turn 0 (1 ∷ []) ∷ [])) (sym (the_semaphore 0 sem is)) left in
          omega (arith, ap all_on kept)
      by_place (suc zero) sem is left =
          let kept = subst (λ s. yard [] [] ≡ woken_on (with_parked (yard [] []) s (parked_on (yard [] []) s ++ turn 0 (1 ∷ []) ∷ [])) 0) (sym (the_semaphore 2 sem is)) left in
          omega (arith, ap all_on kept)
      by_place (suc (suc place)) sem is left = let no : None ≡ Some sem = is in absurd (cc)

  leaves_parked : (parked_turn : Snapshot TurnState) → parked_turn.value ≡ turn 0 (1 ∷ []) → LeavesParked {V = ℕ} net 0 None (parking.Parked parked_turn) (yard (turn 2 (2 ∷ []) ∷ []) []) (yard [] (turn 0 (1 ∷ []) ∷ [])) [] (release 2 ∷ [])
  leaves_parked parked_turn is = subst (λ t. ParksLast net 0 None t (yard (turn 2 (2 ∷ []) ∷ []) []) (yard [] (turn 0 (1 ∷ []) ∷ [])) [] (release 2 ∷ [])) (sym is) parks_last

  leaves_all : LeavesParked {V = ℕ} net 0 None (parking.Taken (turn 0 [])) two_and_one two_and_one [] [] × ¬ LeavesParked {V = ℕ} net 0 None (parking.Taken (turn 0 [])) two_and_one (yard [] []) [] []
  leaves_all = (refl, λ same. omega (arith, ap all_on same))

  -- ---- What is left after what is parked was settled.
  dropped_there : dropped_release n (record { task = 2; cause = Strong; place = 7; why = Stuck 0 }) ≡ release 2
  dropped_there = refl

  abbrev dropped : ℕ → Dropping
  dropped t = record { task = t; cause = Strong; place = 7; why = Stuck 0 }

  drops_each : DropsEach n (released (release 2 ∷ []) (release 0 ∷ [])) (dropped 2 ∷ dropped 0 ∷ [])
  drops_each = IsPermutation-refl (release 2 ∷ release 0 ∷ [])

  drops_one_of_two : ¬ DropsEach n (released (release 2 ∷ []) (release 0 ∷ [])) (dropped 2 ∷ [])
  drops_one_of_two drops = absurd (omega (arith, length_permutation (release 2 ∷ release 0 ∷ []) (release 2 ∷ []) drops))

  goes_first : GoesFirst parked (released (release 0 ∷ []) (release 0 ∷ [])) (release 2)
  goes_first = record { sem = 0; first = refl; others = refl }

  loses_the_others : ¬ GoesFirst parked (released [] []) (release 2)
  loses_the_others goes = by_semaphore goes.sem goes.others
    where
      by_semaphore : (sem : ℕ) → released [] [] ≡ woken_on parked sem → ⊥
      by_semaphore zero left = omega (arith, ap released_on left)
      by_semaphore (suc zero) left = omega (arith, ap released_on left)
      by_semaphore (suc (suc zero)) left = omega (arith, ap released_on left)
      by_semaphore (suc (suc (suc sem))) left = omega (arith, ap released_on left)

  goes_second : ¬ GoesFirst (released (release 2 ∷ release 0 ∷ []) []) (released (release 2 ∷ []) []) (release 0)
  goes_second goes = by_semaphore goes.sem goes.first
    where
      by_semaphore : (sem : ℕ) → slice_get (parked_on (released (release 2 ∷ release 0 ∷ []) []) sem) 0 ≡ Some (release 0) → ⊥
      by_semaphore zero first = let same : release 2 ≡ release 0 = cc in omega (arith, ap (λ (f : FreshState). f.task) same)
      by_semaphore (suc zero) first = let no : ◌≡◌ {A = Option FreshState} None (Some (release 0)) = first in absurd (cc)
      by_semaphore (suc (suc zero)) first = let no : ◌≡◌ {A = Option FreshState} None (Some (release 0)) = first in absurd (cc)
      by_semaphore (suc (suc (suc sem))) first = let no : ◌≡◌ {A = Option FreshState} None (Some (release 0)) = first in absurd (cc)

  waits_as_before : LeavesSettled {V = ℕ} table settled.Waits parked parked × ¬ LeavesSettled {V = ℕ} table settled.Waits parked (released [] [])
  waits_as_before = (refl, λ same. omega (arith, ap released_on same))

  one_goes_on : LeavesSettled {V = ℕ} table (settled.Goes (release 2)) parked (released (release 0 ∷ []) (release 0 ∷ []))
  one_goes_on = goes_first

  all_are_dropped : (drops : Vec Dropping Global) → drops.items ≡ dropped 2 ∷ dropped 0 ∷ [] → LeavesSettled {V = ℕ} table (settled.Over (spent_state n (AllDropped drops))) (released (release 2 ∷ []) (release 0 ∷ [])) (released [] [])
  all_are_dropped drops are = (subst (DropsEach n (released (release 2 ∷ []) (release 0 ∷ []))) (sym are) drops_each, All-from_recursion (λ (list : List FreshState). list ≡ []) ([] ∷ [] ∷ [] ∷ []) (refl, (refl, (refl, tt))))

  one_stays_parked : (drops : Vec Dropping Global) → ¬ LeavesSettled {V = ℕ} table (settled.Over (spent_state n (AllDropped drops))) (released (release 2 ∷ []) (release 0 ∷ [])) (released (release 2 ∷ []) [])
  one_stays_parked drops leaves = let no : ◌≡◌ {A = List FreshState} (release 2 ∷ []) [] = All-head (λ (list : List FreshState). list ≡ []) (release 2 ∷ []) ([] ∷ [] ∷ []) leaves.1 in absurd (cc)

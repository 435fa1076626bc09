-- What a yard has after turns were woken and parked.
use Rattle.std.specs.Prelude.{◌≡◌, ◌==◌, ◌+◌, ℕ, List, [], ◌∷◌, ◌++◌, Option, Some, None, cond, take, drop, map, slice_get}
use Rattle.std.specs.List.{list_any}
use Rattle.task_graph.specs.NetRows.{NetRows}
use Rattle.join_tables.specs.States.{TableState, TurnState, FreshState}
use Rattle.semaphore_park.specs.Parking.{YardView, yard_view, parked_on, with_parked}
use Rattle.semaphore_turns.specs.Semaphores.{taken_by}
use Rattle.semaphore_turns.specs.WaitingTurns.{release_of}
use Rattle.semaphore_turns.specs.declared.parks.Parking.{Parking}
use Rattle.semaphore_turns.specs.declared.parks.Parking.TheVariants.{Taken, Parked}

-- a yard of turns, and the same seen as their releases
abbrev pub Turns : Type 0
Turns = YardView TurnState TableState

abbrev pub Releases : Type 0
Releases = YardView FreshState TableState

abbrev pub releases_in : Turns → Releases
releases_in yard = yard_view yard.home (map (map release_of) yard.lists)

-- the yard without the first of those that are parked on a semaphore, if there is one
abbrev pub woken_on : {T : Type 0} → YardView T TableState → ℕ → YardView T TableState
woken_on yard sem = with_parked yard sem (drop 1 (parked_on yard sem))

-- the yard after that, for each of these semaphores in turn, and those that were woken, in their order
abbrev pub left_after : {T : Type 0} → YardView T TableState → List ℕ → YardView T TableState
left_after yard [] = yard
left_after yard (sem ∷ sems) = left_after (woken_on yard sem) sems

abbrev pub woken_from : {T : Type 0} → YardView T TableState → List ℕ → List T
woken_from yard [] = []
woken_from yard (sem ∷ sems) = take 1 (parked_on yard sem) ++ woken_from (woken_on yard sem) sems

-- For each of these semaphores the first turn that was parked there is woken, if there was one.
pub record WakesFirst (sems : List ℕ) (old new : Turns) (before after : List FreshState) : Type 0 where
  pub yard : new ≡ left_after old sems
  pub woken : after ≡ before ++ map release_of (woken_from old sems)

-- The semaphore for which a turn was woken, if it is among these.
abbrev pub passed_over : List ℕ → Option ℕ → List ℕ
passed_over sems None = []
passed_over sems (Some sem) = cond (list_any (λ s. s == sem) sems) (sem ∷ []) []

-- A turn is parked behind what waits for a unit of the same semaphore. Of the semaphores of its task's list, the first
-- that is parked is woken for each before that one, and for one after it if the turn was woken for its sake.
pub record ParksLast (net : NetRows) (task : ℕ) (woken_for : Option ℕ) (turn : TurnState) (old new : Turns) (before after : List FreshState) : Type 0 where
  pub place : ℕ
  pub sem : ℕ
  pub sem_is : slice_get (taken_by net task) place ≡ Some sem
  pub wakes : WakesFirst (take place (taken_by net task) ++ passed_over (drop (place + 1) (taken_by net task)) woken_for) (with_parked old sem (parked_on old sem ++ turn ∷ [])) new before after

-- what parking a turn of this task leaves in the yard
abbrev pub LeavesParked : {V : Type 0} → NetRows → ℕ → Option ℕ → Parking V → Turns → Turns → List FreshState → List FreshState → Type 0
LeavesParked net task woken_for (Taken turn) old new before after = new ≡ old
LeavesParked net task woken_for (Parked turn) old new before after = ParksLast net task woken_for turn.value old new before after

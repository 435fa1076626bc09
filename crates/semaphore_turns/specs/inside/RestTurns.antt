-- The turns of a rest, each with the semaphore on which it was parked.
use Rattle.std.specs.Prelude.{◌≡◌, ◌≢◌, ℕ, ◌<◌, ◌≤◌, false, Bool, List, [], ◌∷◌, Some, None, All, Contains, length, map, reverse, IsTrue}
use Rattle.std.specs.List.{AllByRecursion}
use Rattle.task_graph.specs.NetRows.{NetRows}
use Rattle.journal_rules.specs.SemaphoreRule.{takes}
use Rattle.table_steps.specs.Giving.{times}
use Rattle.atomic_table.specs.Seated.{TableId}
use Rattle.join_tables.specs.States.{TableState, FreshState, fresh_state}
use Rattle.join_tables.specs.RestStates.{RestState}
use Rattle.join_tables.specs.Rests.{IsOfTable, IsOfDrops}
use Rattle.join_tables.specs.declared.fates.Fate.{Fate}
use Rattle.join_tables.specs.declared.rests.Parked.{Parked}
use Rattle.semaphore_park.specs.Parking.{parked_on, with_parked}
use Rattle.semaphore_turns.specs.Settlements.{dropped_release}
use Rattle.semaphore_turns.specs.YardTurns.{Releases}
use Rattle.semaphore_turns.specs.declared.settlement.Look.{Look}
use Rattle.semaphore_turns.specs.declared.settlement.Look.TheVariants.{Busy, Alone}
use Rattle.semaphore_turns.specs.declared.settlement.UnitSearch.{UnitSearch}
use Rattle.semaphore_turns.specs.declared.settlement.UnitSearch.TheVariants.{Free, Full}

-- each task takes the semaphore beside it
abbrev pub TakeThese : NetRows → List Parked → List ℕ → Type 0
TakeThese net [] [] = Unit {0}
TakeThese net [] (sem ∷ sems) = ⊥
TakeThese net (turn ∷ turns) [] = ⊥
TakeThese net (turn ∷ turns) (sem ∷ sems) = IsTrue (takes net sem turn.task) × TakeThese net turns sems

-- a rest of turns of a table that were parked on these semaphores
pub record RestsOn (table : TableState) (rest : RestState) (sems : List ℕ) : Type 0 where
  pub table_is : IsOfTable table.table rest.table
  pub take_these : TakeThese table.net rest.turns sems
  pub in_range : AllByRecursion (λ sem. sem < length table.net.sems) sems

-- a rest that has drawn no Drop and isn't known to be alone
abbrev pub IsUntouched : RestState → Type 0
IsUntouched rest = (rest.alone ≡ None) × (rest.dropped ≡ [])

-- a rest is alone, and the run has no Fault
abbrev pub IsQuiet : RestState → Type 0
IsQuiet rest = (rest.alone ≡ Some false) × (rest.dropped ≡ [])

-- none of these semaphores has a unit
abbrev pub AreFull : List ℕ → List ℕ → Type 0
AreFull sems full = AllByRecursion (λ sem. 1 ≤ times sem full) sems

-- A rest that is alone may drop all its turns: after a Fault, or since none of the semaphores has a unit.
abbrev pub MayDropAll : RestState → List ℕ → Bool → Type 0
MayDropAll rest sems faulted = (rest.alone ≡ Some faulted) × (faulted ≡ false → AreFull sems rest.full) × (rest.turns ≢ [])

-- the yard with a release before all that are parked on a semaphore
abbrev pub with_first : Releases → ℕ → FreshState → Releases
with_first yard sem release = with_parked yard sem (release ∷ parked_on yard sem)

-- the release of a turn in a rest
abbrev pub rest_release : TableId → Parked → FreshState
rest_release n turn = fresh_state n turn.task turn.cause

-- the yard after turns were parked again on these semaphores, the last first, each before what is parked there
abbrev pub put_back : TableId → List Parked → List ℕ → Releases → Releases
put_back n (turn ∷ turns) (sem ∷ sems) yard = with_first (put_back n turns sems yard) sem (rest_release n turn)
put_back n _ _ yard = yard

-- the turns were dropped, the last first
abbrev pub DropsTurns : {V : Type 0} → TableId → List Parked → Fate V → Type 0
DropsTurns n turns fate = IsOfDrops fate (λ drops. map (dropped_release n) drops ≡ reverse (map (rest_release n) turns))

-- A look at parked turns found that they are all the live turns of a table, or that there are others.
abbrev pub IsLookAt : {V : Type 0} → TableState → Look V → Type 0
IsLookAt table (Busy live) = Unit {0}
IsLookAt table (Alone turns faulted) =
    RestsOn table turns.rest turns.sems.items × (turns.rest.alone ≡ Some faulted) × (turns.rest.dropped ≡ []) × (turns.rest.turns ≢ [])

-- All that were parked are parked as before, or all are in the rest.
abbrev pub LeavesLook : {V : Type 0} → TableState → Look V → Releases → Releases → Type 0
LeavesLook table (Busy live) old new = new ≡ old
LeavesLook table (Alone turns faulted) old new = (put_back table.table turns.rest.turns turns.sems.items new ≡ old) × All (λ list. list ≡ []) new.lists

-- A search for a unit among these semaphores found one of a semaphore, or none.
abbrev pub IsUnitLook : {V : Type 0} → TableState → List Parked → List ℕ → UnitSearch V → Type 0
IsUnitLook table before sems (Free turns sem) =
    RestsOn table turns.rest turns.sems.items × (turns.rest.dropped ≡ []) × (turns.rest.turns ≡ before) × (turns.sems.items ≡ sems) × Contains sems sem
IsUnitLook table before sems (Full turns) =
    RestsOn table turns.rest turns.sems.items × MayDropAll turns.rest turns.sems.items false × (turns.rest.dropped ≡ []) × (turns.rest.turns ≡ before)

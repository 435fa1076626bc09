-- Which turns are woken, and what parking a turn leads to.
use Rattle.std.specs.Prelude.{◌≡◌, ℕ, ◌≤◌, ◌++◌, List, length, IsTrue, All}
use Rattle.std.specs.List.{list_any}
use Rattle.journal_rules.specs.SemaphoreRule.{takes}
use Rattle.join_tables.specs.States.{TableState, TurnState, FreshState}
use Rattle.semaphore_turns.specs.Semaphores.{taken_by}
use Rattle.semaphore_turns.specs.HeldUnits.{HoldsAll, IsSameTurn, FoundNone}
use Rattle.semaphore_turns.specs.WaitingTurns.{WaitsAt}
use Rattle.semaphore_turns.specs.declared.parks.Parking.{Parking}
use Rattle.semaphore_turns.specs.declared.parks.Parking.TheVariants.{Taken, Parked}

-- a release of a table whose task takes one of these semaphores
pub record WaitedFor (table : TableState) (sems : List ℕ) (release : FreshState) : Type 0 where
  pub table_is : release.table ≡ table.table
  pub takes : IsTrue (list_any (λ sem. takes table.net sem release.task) sems)

-- Releases that waited for a unit of one of these semaphores were added, at most so many.
pub record WakesAtMost (table : TableState) (sems : List ℕ) (most : ℕ) (before after : List FreshState) : Type 0 where
  pub woken : List FreshState
  pub after_is : after ≡ before ++ woken
  pub waited : All (WaitedFor table sems) woken
  pub few : length woken ≤ most

-- at most one for each
abbrev pub Wakes : TableState → List ℕ → List FreshState → List FreshState → Type 0
Wakes table sems before after = WakesAtMost table sems (length sems) before after

-- A turn waits, after its last step found no unit of a semaphore that its task takes.
pub record ParkedFor (table : TableState) (old turn : TurnState) : Type 0 where
  pub same : IsSameTurn old turn
  pub sem : ℕ
  pub waits : WaitsAt turn table sem
  pub none : FoundNone table.net sem turn

-- A turn got all its units after all, or it is parked, and turns were woken for the units that it had.
abbrev pub ParksTurn : {V : Type 0} → TableState → TurnState → Parking V → List FreshState → List FreshState → Type 0
ParksTurn table old (Taken turn) before after = IsSameTurn old turn × HoldsAll table.net turn × (after ≡ before)
ParksTurn table old (Parked turn) before after = ParkedFor table old turn.value × Wakes table (taken_by table.net old.task) before after

-- What becomes of what is parked.
use Rattle.std.specs.Prelude.{◌≡◌, ℕ, List, [], Some, All, map, slice_get, flat_map, IsPermutation}
use Rattle.atomic_table.specs.Seated.{TableId}
use Rattle.join_tables.specs.Rests.{IsOfDrops}
use Rattle.join_tables.specs.States.{TableState, FreshState, fresh_state}
use Rattle.join_tables.specs.declared.fates.Dropping.{Dropping}
use Rattle.join_tables.specs.declared.fates.Fate.{Fate}
use Rattle.join_tables.specs.declared.fates.Fate.TheVariants.{AllDropped}
use Rattle.semaphore_park.specs.Parking.{parked_on}
use Rattle.semaphore_turns.specs.YardTurns.{Releases, woken_on}
use Rattle.semaphore_turns.specs.declared.settlement.Settled.{Settled}
use Rattle.semaphore_turns.specs.declared.settlement.Settled.TheVariants.{Waits, Goes, Over}

-- releases were dropped together
abbrev pub AreDrops : {V : Type 0} → Fate V → Type 0
AreDrops (AllDropped drops) = Unit {0}
AreDrops _ = ⊥

-- A release of the table goes on, or all that were parked are dropped.
abbrev pub Settles : {V : Type 0} → TableState → Settled V → Type 0
Settles table Waits = Unit {0}
Settles table (Goes release) = release.table ≡ table.table
Settles table (Over spent) = (spent.table ≡ table.table) × AreDrops spent.fate

-- the release that was dropped
abbrev pub dropped_release : TableId → Dropping → FreshState
dropped_release n drop = fresh_state n drop.task drop.cause

-- each release that was parked is dropped, and no other
abbrev pub DropsEach : TableId → Releases → List Dropping → Type 0
DropsEach n yard drops = IsPermutation (flat_map (λ list. list) yard.lists) (map (dropped_release n) drops)

-- the first release that was parked on some semaphore is parked no more, and the others are
pub record GoesFirst (old new : Releases) (release : FreshState) : Type 0 where
  pub sem : ℕ
  pub first : slice_get (parked_on old sem) 0 ≡ Some release
  pub others : new ≡ woken_on old sem

-- Where none goes on the same are parked as before, each at its place. Or the first of one semaphore goes on, or all
-- are dropped.
abbrev pub LeavesSettled : {V : Type 0} → TableState → Settled V → Releases → Releases → Type 0
LeavesSettled table Waits old new = new ≡ old
LeavesSettled table (Goes release) old new = GoesFirst old new release
LeavesSettled table (Over spent) old new = IsOfDrops spent.fate (DropsEach table.table old) × All (λ list. list ≡ []) new.lists

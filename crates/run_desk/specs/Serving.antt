-- What serving a desk comes to, by what the caller has seen of it before and after.
use Rattle.std.specs.Prelude.{◌≡◌, ◌≢◌, ℕ, Bool, true, false, List, [], ◌∷◌, ◌++◌, Some, slice_get}
use Rattle.run_frame.specs.Meaning.{Meaning}
use Rattle.run_frame.specs.declared.run.FrameRun.{FrameRun}
use Rattle.nested_runs.specs.Rounds.{AreAllRounds, times}
use Rattle.topology_runs.specs.Told.{AreToldRounds}
use Rattle.desk_book.specs.declared.entry.Ask.{Ask}
use Rattle.desk_book.specs.declared.entry.DeskEntry.{DeskEntry}
use Rattle.desk_book.specs.declared.entry.DeskEntry.TheVariants.{Took}
use Rattle.desk_book.specs.declared.turn.Turn.TheVariants.{Over}
use Rattle.desk_book.specs.Histories.{asks_of, turn_of, IsFirstToTake, IsOldestWaiting, NoneWaits, EachIsPassedOver}
use Rattle.desk_book.specs.Passes.{PassState, GoesOn, seen}
use Rattle.run_desk.specs.declared.service.Served.{Served}
use Rattle.run_desk.specs.declared.service.Served.TheVariants.{Ran, Cut, Busy, Empty}

-- The ask was the first that might be taken, was taken then, and has ended since.
pub record HasServed (old new : PassState) (n : ℕ) (whole : Bool) : Type 0 where
  pub before : List DeskEntry
  pub longer : GoesOn (seen old) before
  pub first : IsFirstToTake before n
  pub taken : GoesOn (before ++ Took n ∷ []) (seen new)
  pub ended : turn_of (seen new) n ≡ Over whole

-- An ask was served, whole or cut; or asks wait, of which this is the oldest, and each is passed over; or none waits.
abbrev pub IsServed : PassState → PassState → Served → Type 0
IsServed old new (Ran n) = HasServed old new n true
IsServed old new (Cut n) = HasServed old new n false
IsServed old new (Busy n) = IsOldestWaiting (seen new) n × EachIsPassedOver (seen new)
IsServed old new Empty = NoneWaits (seen new)

-- There are runs that are all rounds which an ask of this history asked for, of its graph's job. The workers' watchers,
-- if there are any, were told in between as many spans as these runs have.
pub record HasRunRounds {J V X : Type 0} (meaning : Meaning J V) (told : X → ℕ) (jobs : List J) (history : List DeskEntry) (old new : List X) (n : ℕ) : Type 0 where
  pub ask : Ask
  pub asked : slice_get (asks_of history) n ≡ Some ask
  pub job : J
  pub of_graph : slice_get jobs ask.graph ≡ Some job
  pub runs : List (FrameRun J V)
  pub rounds : AreAllRounds meaning job (times ask.times) runs
  pub watched : old ≢ [] → AreToldRounds told runs old new

-- What the workers' watchers were told: where an ask was served whole, the spans of its rounds; where none was served,
-- nothing. Nothing is said where an allocation failed.
abbrev pub RunsRounds : {J V X : Type 0} → Meaning J V → (X → ℕ) → List J → List DeskEntry → List X → List X → Served → Type 0
RunsRounds meaning told jobs history old new (Ran n) = HasRunRounds meaning told jobs history old new n
RunsRounds meaning told jobs history old new (Cut n) = Unit {0}
RunsRounds meaning told jobs history old new (Busy n) = new ≡ old
RunsRounds meaning told jobs history old new Empty = new ≡ old

-- an allocation failed
abbrev pub WasCut : Served → Type 0
WasCut (Ran n) = ⊥
WasCut (Cut n) = Unit {0}
WasCut (Busy n) = ⊥
WasCut Empty = ⊥

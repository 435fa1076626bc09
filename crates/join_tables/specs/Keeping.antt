-- What a keeper knows, and when that is a whole run.
use Rattle.std.specs.Prelude.{◌≡◌, ◌≢◌, ◌==◌, ◌<◌, ℕ, List, [], ◌∷◌, ◌++◌, map, flat_map, reverse, length, Some, slice_get, count_by, Result}
use Rattle.std.specs.declared.result.Result.TheVariants.{Ok}
use Rattle.std.specs.List.{AllByRecursion}
use Rattle.task_graph.specs.NetRows.{NetRows}
use Rattle.atomic_table.specs.Seated.{TableId}
use Rattle.journal_rules.specs.declared.entry.Entry.{Entry}
use Rattle.journal_rules.specs.declared.entry.Cause.{Cause}
use Rattle.journal_rules.specs.declared.entry.Part.{Part}
use Rattle.journal_rules.specs.declared.entry.Entry.TheVariants.{Start, End, Fault, Drop}
use Rattle.journal_rules.specs.ShapeLegal.{ShapeLegal, MeetsDataRule}
use Rattle.journal_rules.specs.Complete.{Complete}
use Rattle.table_steps.specs.Values.{HaveOneValueEach}
use Rattle.join_tables.specs.Values.{values_known}
use Rattle.join_tables.specs.declared.fates.Dropping.{Dropping}
use Rattle.join_tables.specs.declared.fates.Fate.{Fate}
use Rattle.join_tables.specs.declared.fates.Fate.TheVariants.{Ended, Faulted, Dropped, AllDropped}
use Rattle.join_tables.specs.declared.keeper.Recorded.{Recorded}
use Rattle.join_tables.specs.declared.keeper.Remaining.{Remaining}
use Rattle.join_tables.specs.declared.keeper.Remaining.TheVariants.{More, All as AllTaken}

-- a keeper's table, the fates of the turns that it took in, in that order, and how many live turns it found each time
-- that it took one off, the newest first
pub record KeeperState (V : Type 0) : Type 0 where
  pub table : TableId
  pub fates : List (Fate V)
  pub found : List ℕ

abbrev pub keeper_state : {V : Type 0} → TableId → List (Fate V) → List ℕ → KeeperState V
keeper_state n fates found = record { table = n; fates = fates; found = found }

-- the entry of a Start
abbrev pub start_of : ℕ → ℕ → Cause → List Part → Recorded
start_of place task cause ins = record { place = place; entry = Start task cause ins }

-- the entry of a Drop
abbrev pub drop_of : Dropping → Recorded
drop_of d = record { place = d.place; entry = Drop d.task d.cause d.why }

-- the entries of a turn that is done; those of a rest begin with the newest
abbrev pub entries_of : {V : Type 0} → Fate V → List Recorded
entries_of (Ended ended) = start_of ended.start ended.task ended.cause ended.found.parts ∷ record { place = ended.place; entry = End ended.start ended.gives ended.inner } ∷ []
entries_of (Faulted f) = start_of f.start f.task f.cause f.found.parts ∷ record { place = f.place; entry = Fault f.start f.why } ∷ []
entries_of (Dropped d) = drop_of d ∷ []
entries_of (AllDropped drops) = map drop_of (reverse drops.items)

-- and those of several turns
abbrev pub entries_told : {V : Type 0} → List (Fate V) → List Recorded
entries_told fates = flat_map entries_of fates

-- Where a start found the value of an End that is told too, it is the value with which that End was ended.
abbrev pub AgreeOnValues : {V : Type 0} → List (Fate V) → Type 0
AgreeOnValues fates = HaveOneValueEach (values_known fates)

-- a keeper that took in the turns that these fates are of, and has then found these numbers
abbrev pub keeper_with : {V : Type 0} → KeeperState V → List (Fate V) → List ℕ → KeeperState V
keeper_with k fates found = keeper_state k.table (k.fates ++ fates) found

-- entries as pairs, each with its place
abbrev pub with_places : List Recorded → List (ℕ × Entry)
with_places entries = map (λ (r : Recorded). (r.place, r.entry)) entries

-- A journal has each of these entries at its place, and each of its places is named once.
pub record Merges (entries : List Recorded) (journal : List Entry) : Type 0 where
  pub stand : AllByRecursion (λ (r : Recorded). slice_get journal r.place ≡ Some r.entry) entries
  pub each : (m : ℕ) → m < length journal → count_by (λ (r : Recorded). r.place == m) entries ≡ 1

-- These entries are those of a finished run: they are one journal that is legal as far as the net decides, whose starts
-- find what they may, and complete.
pub record TellsRun (net : NetRows) (limit : ℕ) (entries : List Recorded) : Type 0 where
  pub journal : List Entry
  pub merges : Merges entries journal
  pub legal : ShapeLegal net limit journal
  pub meets : MeetsDataRule net journal
  pub complete : Complete net limit journal

-- they are those of a finished run of some net
pub record TellsSomeRun (entries : List Recorded) : Type 0 where
  pub net : NetRows
  pub limit : ℕ
  pub tells : TellsRun net limit entries

-- what is left where a keeper has found so many live turns: nothing after the last
abbrev pub LeavesOf : ℕ → Remaining → Type 0
LeavesOf n AllTaken = n ≡ 1
LeavesOf n More = n ≢ 1

-- the answer says that no turn is left
abbrev pub IsLast : {E : Type 0} → Result Remaining E → Type 0
IsLast (Ok AllTaken) = Unit {0}
IsLast _ = ⊥

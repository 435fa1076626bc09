-- Entries at their places, with the values of the Ends among them.
use Rattle.std.specs.Prelude.{◌≡◌, ℕ, suc, List, [], ◌∷◌, ◌++◌, map, flat_map, reverse, Option, Some, None, set}
use Rattle.std.specs.Global.{Global}
use Rattle.std.specs.declared.sync.Arc.{Arc}
use Rattle.journal_rules.specs.declared.entry.Entry.{Entry}
use Rattle.journal_rules.specs.declared.entry.Entry.TheVariants.{Start, End, Fault, Drop}
use Rattle.join_tables.specs.declared.fates.Dropping.{Dropping}
use Rattle.join_tables.specs.declared.fates.Fate.{Fate}
use Rattle.join_tables.specs.declared.fates.Fate.TheVariants.{Ended, Faulted, Dropped, AllDropped}
use Rattle.join_tables.specs.declared.keeper.FinishedRun.{FinishedRun}
use Rattle.join_tables.specs.declared.keeper.RecordedValue.{RecordedValue}
use Rattle.join_tables.specs.declared.entry_row.EntryRow.{EntryRow}

-- what is put at a place
abbrev pub row_at : {V : Type 0} → ℕ → Entry → Option (Arc V Global) → ℕ × EntryRow V
row_at n x value = (n, record { entry = x; value = value })

abbrev pub drop_row : {V : Type 0} → Dropping → ℕ × EntryRow V
drop_row d = row_at d.place (Drop d.task d.cause d.why) None

-- and all of a turn that is done
abbrev pub fate_rows : {V : Type 0} → Fate V → List (ℕ × EntryRow V)
fate_rows (Ended e) = row_at e.start (Start e.task e.cause e.found.parts) None ∷ row_at e.place (End e.start e.gives e.inner) (Some e.value) ∷ []
fate_rows (Faulted f) = row_at f.start (Start f.task f.cause f.found.parts) None ∷ row_at f.place (Fault f.start f.why) None ∷ []
fate_rows (Dropped d) = drop_row d ∷ []
fate_rows (AllDropped drops) = map drop_row (reverse drops.items)

abbrev pub all_rows : {V : Type 0} → List (Fate V) → List (ℕ × EntryRow V)
all_rows fates = flat_map fate_rows fates

-- each is put at its place
abbrev pub placed : {X : Type 0} → List (ℕ × X) → List (Option X) → List (Option X)
placed [] places = places
placed (x ∷ xs) places = placed xs (set places x.0 (Some x.1))

-- the entries that are there
abbrev pub journal_in : {V : Type 0} → List (Option (EntryRow V)) → List Entry
journal_in [] = []
journal_in (Some f ∷ fs) = f.entry ∷ journal_in fs
journal_in (None ∷ fs) = journal_in fs

-- and the values, where the first entry stands at place n of the journal
abbrev pub value_if : {V : Type 0} → ℕ → Option (Arc V Global) → List (RecordedValue V)
value_if n (Some value) = record { place = n; value = value } ∷ []
value_if n None = []

abbrev pub values_from : {V : Type 0} → ℕ → List (Option (EntryRow V)) → List (RecordedValue V)
values_from n [] = []
values_from n (Some f ∷ fs) = value_if n f.value ++ values_from (suc n) fs
values_from n (None ∷ fs) = values_from n fs

abbrev pub IsFinishedOf : {V : Type 0} → List (Option (EntryRow V)) → FinishedRun V → Type 0
IsFinishedOf places run = (run.journal ≡ journal_in places) × (run.values.items ≡ values_from 0 places)

-- What is known of the journal of a run after one of its steps.
use Rattle.std.specs.Prelude.{◌≡◌, List, Some, slice_get}
use Rattle.std.specs.List.{AllByRecursion}
use Rattle.table_steps.specs.OneJournal.{AreInOneJournal}
use Rattle.join_tables.specs.Keeping.{entries_of, entries_told, with_places}
use Rattle.join_tables.specs.declared.fates.Fate.{Fate}
use Rattle.join_tables.specs.declared.keeper.Recorded.{Recorded}
use Rattle.run_frame.specs.Meaning.{Meaning}
use Rattle.run_frame.specs.NestedRule.{journal_of}
use Rattle.run_frame.specs.declared.run.FrameRun.{FrameRun}

-- The entries of a fate are, at their places, in one journal that is legal as far as the job's net decides and whose
-- starts find what they may.
abbrev pub IsInJournal : {J V : Type 0} → Meaning J V → J → Fate V → Type 0
IsInJournal meaning job fate = AreInOneJournal (meaning.net job) (meaning.limit job) (with_places (entries_of fate))

-- A run has the entries of these fates at their places.
abbrev pub HasEntries : {J V : Type 0} → FrameRun J V → List (Fate V) → Type 0
HasEntries run fates = AllByRecursion (λ (r : Recorded). slice_get (journal_of run) r.place ≡ Some r.entry) (entries_told fates)

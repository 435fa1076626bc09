-- The rounds that an ask comes to.
use Rattle.std.specs.Prelude.{◌≡◌, ℕ, Bool, true, false, List, [], IfSome, map, slice_get}
use Rattle.journal_rules.specs.declared.entry.Entry.{Entry}
use Rattle.run_frame.specs.Meaning.{Meaning}
use Rattle.run_frame.specs.declared.run.FrameRun.{FrameRun}
use Rattle.run_frame.specs.NestedRule.{journal_of}
use Rattle.nested_runs.specs.Rounds.{AreAllRounds, AreFirstRounds, times}
use Rattle.desk_book.specs.declared.entry.Ask.{Ask}
use Rattle.desk_book.specs.declared.turn.Turn.{Turn}
use Rattle.desk_book.specs.declared.turn.Turn.TheVariants.{Waiting, Open, Over}

-- the journals of rounds
abbrev pub journals_of : {J V : Type 0} → List (FrameRun J V) → List (List Entry)
journals_of runs = map journal_of runs

module _ {J V : Type 0} (meaning : Meaning J V) where
  -- they are all rounds of a job, so many times, or the first ones where they were cut
  abbrev pub AreRounds : Bool → J → ℕ → List (FrameRun J V) → Type 0
  AreRounds true job n runs = AreAllRounds meaning job (times n) runs
  AreRounds false job n runs = AreFirstRounds meaning job (times n) runs

  -- they are those of an ask, of its graph's job and as many as it asked for
  abbrev pub AreRoundsOf : List J → Ask → Bool → List (FrameRun J V) → Type 0
  AreRoundsOf jobs ask whole runs = IfSome (slice_get jobs ask.graph) (λ job. AreRounds whole job ask.times runs)

  -- the runs that are kept of an ask, by how far it is
  abbrev pub RunsFit : List J → Ask → Turn → List (FrameRun J V) → Type 0
  RunsFit jobs ask Waiting runs = runs ≡ []
  RunsFit jobs ask Open runs = runs ≡ []
  RunsFit jobs ask (Over whole) runs = AreRoundsOf jobs ask whole runs

-- The machine, as contracts see it, and what its steps do.
use Rattle.std.specs.Prelude.{◌≡◌, ℕ, Bool, List, [], ◌∷◌, ◌++◌, length, Option, Some, None, MatchOption}
use Rattle.journal_rules.specs.declared.entry.Cause.{Cause}
use Rattle.journal_rules.specs.declared.entry.Why.{Why}
use Rattle.journal_rules.specs.declared.entry.DropWhy.{DropWhy}
use Rattle.journal_rules.specs.declared.entry.Entry.{Entry}
use Rattle.journal_rules.specs.declared.entry.Entry.TheVariants.{Start, End, Fault, Drop}
use Rattle.legal_run.specs.declared.verdict.Break.{Break}
use Rattle.legal_run.specs.declared.verdict.Break.TheVariants.{OverUnits, OverLimit, NoSuch as NoSuchNumber, AfterStuck as StuckBefore, NotReleased as NoRelease, NotOpen as NoOpenStart, NotChosen as NoChoice, NothingOut as NoUnitOut, NotOver as NoOverRelease, NotHalted as NoFault, NotStuck as NoStuckRun}
use Rattle.net_machine.specs.declared.machine_error.MachineError.{MachineError}
use Rattle.net_machine.specs.declared.machine_error.MachineError.TheVariants.{NoSuch, AfterStuck, NotReleased, NoUnit, AtLimit, NotOpen, NotChosen, NothingOut, NotOver, NotHalted, NotStuck, NoMemory}
use Rattle.legal_run.specs.MachineState.{MachineState}
use Rattle.journal_rules.specs.ShapeLegal.{MayFollow}
use Rattle.legal_run.specs.Refusal.{IsRefusal}
use Rattle.journal_rules.specs.Waiting.{waiting_parts}

-- the entry stands last in the new journal, at this place, and could stand there
pub record Appends (old new : MachineState) (entry : Entry) (place : ℕ) : Type 0 where
  pub stands : place ≡ length old.journal
  pub allowed : MayFollow old.net old.limit old.journal entry
  pub after : new ≡ record old { journal = old.journal ++ entry ∷ [] }

-- the Start of a task by a release, which finds what waits at the edges that release the task
abbrev pub start_entry : MachineState → ℕ → Cause → Entry
start_entry m t cause = Start t cause (waiting_parts m.net t cause m.journal)

abbrev pub Starts : MachineState → MachineState → ℕ → Cause → ℕ → Type 0
Starts old new t cause place = Appends old new (start_entry old t cause) place

-- the End of the Start at a place
abbrev pub Ends : MachineState → MachineState → ℕ → List ℕ → Bool → ℕ → Type 0
Ends old new start gives inner place = Appends old new (End start gives inner) place

-- its Fault
abbrev pub Faults : MachineState → MachineState → ℕ → Why → ℕ → Type 0
Faults old new start why place = Appends old new (Fault start why) place

-- the Drop of a release
abbrev pub Drops : MachineState → MachineState → ℕ → Cause → DropWhy → ℕ → Type 0
Drops old new t cause why place = Appends old new (Drop t cause why) place

-- the break for which a machine refuses an entry with this error
abbrev pub break_of : MachineError → Option Break
break_of NoSuch = Some NoSuchNumber
break_of AfterStuck = Some StuckBefore
break_of NotReleased = Some NoRelease
break_of (NoUnit s) = Some (OverUnits s)
break_of AtLimit = Some OverLimit
break_of NotOpen = Some NoOpenStart
break_of NotChosen = Some NoChoice
break_of (NothingOut s) = Some (NoUnitOut s)
break_of NotOver = Some NoOverRelease
break_of NotHalted = Some NoFault
break_of NotStuck = Some NoStuckRun
break_of NoMemory = None

-- A machine refuses an entry for the break that is told of it, and one that may follow only where an allocation fails.
abbrev pub Refuses : MachineState → Entry → MachineError → Type 0
Refuses m entry error =
    MatchOption (break_of error) (MayFollow m.net m.limit m.journal entry) (IsRefusal m.net m.limit m.journal entry)

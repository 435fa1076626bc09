-- What the seat of a rest knows.
use Rattle.std.specs.Prelude.{◌≡◌, ℕ, Bool, true, false, List, [], ◌∷◌, ◌++◌, reverse, Option, Some, None}
use Rattle.std.specs.List.{AllByRecursion}
use Rattle.journal_rules.specs.declared.entry.DropWhy.{DropWhy}
use Rattle.journal_rules.specs.declared.entry.DropWhy.TheVariants.{Stuck, Halted as AfterFault}
use Rattle.journal_rules.specs.declared.entry.Entry.TheVariants.{Drop}
use Rattle.table_steps.specs.declared.view.TurnDuty.TheVariants.{Told, Collecting}
use Rattle.table_steps.specs.declared.view.SemaphoreRole.TheVariants.{Held, Full}
use Rattle.table_steps.specs.declared.view.SeatMark.TheVariants.{Live, Halted, Alone, Quiet, Sticking}
use Rattle.table_steps.specs.declared.view.Note.{Note}
use Rattle.table_steps.specs.declared.view.Note.TheVariants.{Duty, Sems, Has}
use Rattle.join_tables.specs.declared.fates.Dropping.{Dropping}
use Rattle.join_tables.specs.declared.rests.Parked.{Parked}
use Rattle.journal_rules.specs.declared.entry.Part.{Part}
use Rattle.table_steps.specs.inside.RestKinds.{bare_part}
use Rattle.table_steps.specs.inside.Slots.{FindsFirst, first_parts, after_lots}

-- whether it is known to be alone, and then whether the journal has a Fault
abbrev pub alone_in : List Note → Option Bool
alone_in (Sems Full l ∷ Has Quiet ∷ rest) = Some false
alone_in (Sems Full l ∷ Has Alone ∷ Has Halted ∷ rest) = Some true
alone_in _ = None

-- which semaphores are known to have no unit
abbrev pub full_in : List Note → List ℕ
full_in (Sems Full l ∷ rest) = l
full_in _ = []

abbrev pub known_notes : Option Bool → List ℕ → List Note
known_notes None l = []
known_notes (Some false) l = Sems Full l ∷ Has Quiet ∷ []
known_notes (Some true) l = Sems Full l ∷ Has Alone ∷ Has Halted ∷ []

-- the Drops that it drew
abbrev pub stuck_notes : DropWhy → List Note
stuck_notes (Stuck s) = Has Sticking ∷ []
stuck_notes _ = []

abbrev pub drop_notes : List Dropping → List Note
drop_notes [] = []
drop_notes (d ∷ ds) = Duty (Told d.place (Drop d.task d.cause d.why)) ∷ stuck_notes d.why ++ drop_notes ds

-- these turns, the last first, and then these Drops
abbrev pub HoldsTurns : List Parked → List Dropping → List Note → Type 0
HoldsTurns [] drops v = v ≡ drop_notes drops
HoldsTurns (p ∷ ps) drops (Duty (Collecting t cause taken []) ∷ Has Live ∷ Sems Held [] ∷ rest) = (t ≡ p.task) × (cause ≡ p.cause) × FindsFirst taken rest × HoldsTurns ps drops (after_lots taken rest)
HoldsTurns (p ∷ ps) drops v = ⊥

-- and these are the parts that the turns found
abbrev pub HoldsParts : List (List Part) → List Note → Type 0
HoldsParts [] v = Unit {0}
HoldsParts (parts ∷ more) (Duty (Collecting t cause taken []) ∷ Has Live ∷ Sems Held [] ∷ rest) = (first_parts taken rest ≡ parts) × HoldsParts more (after_lots taken rest)
HoldsParts (parts ∷ more) v = ⊥

-- a rest drops turns only where it is alone, and after a Fault for that reason alone
abbrev pub FitsDrops : Option Bool → List Dropping → Type 0
FitsDrops None drops = drops ≡ []
FitsDrops (Some true) drops = AllByRecursion (λ (d : Dropping). d.why ≡ AfterFault) drops
FitsDrops (Some false) drops = Unit {0}

pub record IsRestView (turns : List Parked) (drops : List Dropping) (v : List Note) : Type 0 where
  pub known : v ≡ known_notes (alone_in v) (full_in v) ++ bare_part v
  pub holds : HoldsTurns (reverse turns) drops (bare_part v)
  pub fits : FitsDrops (alone_in v) drops

-- the parts that the turns of a rest found
abbrev pub RestParts : List (List Part) → List Note → Type 0
RestParts parts v = HoldsParts (reverse parts) (bare_part v)

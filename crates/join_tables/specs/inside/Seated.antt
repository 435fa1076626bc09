-- What the seat of each turn knows.
use Rattle.std.specs.Prelude.{◌≡◌, ◌≤◌, ℕ, List, [], ◌∷◌, ◌++◌, Option, Some, None}
use Rattle.journal_rules.specs.declared.entry.Cause.{Cause}
use Rattle.journal_rules.specs.declared.entry.DropWhy.{DropWhy}
use Rattle.journal_rules.specs.declared.entry.DropWhy.TheVariants.{Limit, Halted as AfterFault}
use Rattle.journal_rules.specs.declared.entry.Entry.TheVariants.{Start, End}
use Rattle.table_steps.specs.declared.view.TurnDuty.TheVariants.{Told, Fresh, Collecting, Ticket, Open, Owes}
use Rattle.table_steps.specs.declared.view.SeatMark.TheVariants.{Live, New, Over, Halted}
use Rattle.table_steps.specs.declared.view.Note.{Note}
use Rattle.table_steps.specs.declared.view.SemaphoreRole.TheVariants.{Held, Owed, Both, Credit, Credited, Claim, Granted, Denied}
use Rattle.table_steps.specs.declared.view.Note.TheVariants.{Duty, Sems, Has, Unfit}
use Rattle.join_tables.specs.declared.turns.EndedStart.{EndedStart}
use Rattle.join_tables.specs.declared.keeper.Recorded.{Recorded}
use Rattle.table_steps.specs.inside.Kinds.{IsTurn, sems_notes, own_units, credits_due, claims_due}
use Rattle.task_graph.specs.NetRows.{NetRows}
use Rattle.join_tables.specs.States.{StartUnits}
use Rattle.table_steps.specs.inside.Accounts.{busy, weigh}
use Rattle.table_steps.specs.inside.UnitKinds.{held_notes}
use Rattle.join_tables.specs.inside.Recording.{tellings, told_notes}
use Rattle.journal_rules.specs.declared.entry.Part.{Part}
use Rattle.journal_rules.specs.declared.entry.Part.TheVariants.{From}
use Rattle.table_steps.specs.declared.view.Lot.TheVariants.{Ours, Putting, Put}
use Rattle.table_steps.specs.inside.Slots.{lot, slot_weigh, awaited_lots, found_lots, our_lots, unlot}
use Rattle.table_steps.specs.inside.SlotKinds.{lot_part}

abbrev pub fresh_view : ℕ → Cause → List Note
fresh_view t cause = Duty (Fresh t cause) ∷ Has Live ∷ []

-- a release that has collected from the first edges, with the parts that it found there
abbrev pub collecting_view : ℕ → Cause → List ℕ → List Part → List ℕ → List Note
collecting_view t cause taken parts left = Duty (Collecting t cause taken left) ∷ Has Live ∷ Sems Held [] ∷ found_lots taken parts ++ awaited_lots left

-- the edges of which a view has collected tokens, and those of which it has not
abbrev pub taken_in : List Note → List ℕ
taken_in (Duty (Collecting t cause taken left) ∷ rest) = taken
taken_in _ = []

abbrev pub left_in : List Note → List ℕ
left_in (Duty (Collecting t cause taken left) ∷ rest) = left
left_in _ = []

-- what a turn knows of a refusal
abbrev pub refusal_notes : Option DropWhy → List Note
refusal_notes (Some Limit) = Has Over ∷ []
refusal_notes (Some AfterFault) = Has Live ∷ Has Halted ∷ []
refusal_notes _ = Has Live ∷ []

abbrev pub turn_view : ℕ → Cause → List ℕ → List Part → Option DropWhy → List ℕ → List Note
turn_view t cause taken parts refused held = Duty (Collecting t cause taken []) ∷ refusal_notes refused ++ held_notes held ++ found_lots taken parts

-- why a turn was refused
abbrev pub refusal_of : List Note → Option DropWhy
refusal_of (x ∷ Has Over ∷ rest) = Some Limit
refusal_of (x ∷ Has Live ∷ Has Halted ∷ rest) = Some AfterFault
refusal_of _ = None

-- and of which semaphores it holds units
abbrev pub first_held : List Note → List ℕ
first_held (Sems Held l ∷ rest) = l
first_held _ = []

abbrev pub held_of : List Note → List ℕ
held_of (x ∷ Has Over ∷ rest) = first_held rest
held_of (x ∷ Has Live ∷ Has Halted ∷ rest) = first_held rest
held_of (x ∷ Has Live ∷ rest) = first_held rest
held_of (x ∷ y ∷ Has Live ∷ rest) = first_held rest
held_of _ = []

abbrev pub ticket_view : ℕ → Cause → List ℕ → List Part → List ℕ → List Note
ticket_view t cause taken parts held = Duty (Collecting t cause taken []) ∷ Duty Ticket ∷ Has Live ∷ held_notes held ++ found_lots taken parts

-- the semaphores of a start, by their notes
pub record UnitShares : Type 0 where
  pub both : List ℕ
  pub credit : List ℕ
  pub credited : List ℕ
  pub claim : List ℕ
  pub granted : List ℕ
  pub refused : Option ℕ

-- what a start knows of a claim that was refused
abbrev pub refused_notes : ℕ → ℕ → Option ℕ → List Note
refused_notes place t None = []
refused_notes place t (Some a) = Sems Denied (a ∷ []) ∷ Unfit a place t ∷ []

abbrev pub running_view : ℕ → Cause → ℕ → List Part → UnitShares → List Note
running_view t cause place ins s = Duty (Open place t) ∷ Has Live ∷ sems_notes s.both s.credit s.credited s.claim s.granted ++ refused_notes place t s.refused ++ Duty (Told place (Start t cause ins)) ∷ []

abbrev pub refused_of : List Note → Option ℕ
refused_of (Sems Denied (a ∷ l) ∷ rest) = Some a
refused_of _ = None

abbrev pub shares_of : List Note → UnitShares
shares_of (x ∷ y ∷ Sems Both b ∷ Sems Credit c ∷ Sems Credited d ∷ Sems Claim l ∷ Sems Granted g ∷ rest) = record { both = b; credit = c; credited = d; claim = l; granted = g; refused = refused_of rest }
shares_of _ = record { both = []; credit = []; credited = []; claim = []; granted = []; refused = None }

-- and as contracts see them
abbrev pub units_in : UnitShares → StartUnits
units_in s = record { back = s.granted ++ s.both; to_credit = s.credit; credited = s.credited; to_claim = s.claim; refused = s.refused }

-- at first
abbrev pub first_shares : NetRows → ℕ → List ℕ → UnitShares
first_shares net t held = record { both = own_units net t held; credit = credits_due net t held; credited = []; claim = claims_due net t; granted = []; refused = None }

-- the semaphores of the units that an end has still to give back
abbrev pub units_of : List Note → List ℕ
units_of (x ∷ y ∷ Sems Owed l ∷ rest) = l
units_of _ = []

abbrev pub owing_view : {V : Type 0} → EndedStart V → List ℕ → List ℕ → List Note
owing_view ended left units = Duty (Owes left) ∷ Has Live ∷ Sems Owed units ∷ Duty (Told ended.place (End ended.start ended.gives ended.inner)) ∷ our_lots ended.place left ++ Duty (Told ended.start (Start ended.task ended.cause ended.found.parts)) ∷ []

-- one that is done owes nothing, and knows these entries
abbrev pub IsSpent : List Recorded → List Note → Type 0
IsSpent entries (Duty (Owes []) ∷ Has Live ∷ rest) = (tellings rest ≡ told_notes entries) × (weigh busy rest ≡ 0)
IsSpent entries _ = ⊥

-- a seat has the parcel of an End still to put into the slot of an edge, and holds no slot
pub record HasParcel (e n : ℕ) (v : List Note) : Type 0 where
  pub ours : 1 ≤ slot_weigh (lot Ours e) v
  pub part : lot_part Ours e v ≡ From n
  pub none_held : slot_weigh (lot Putting e) v ≡ 0
  pub none_put : slot_weigh (lot Put e) v ≡ 0

-- a seat owes this edge next, with its parcel
abbrev pub OwesFirst : ℕ → ℕ → List Note → Type 0
OwesFirst e n (Duty (Owes (f ∷ gives)) ∷ rest) = (f ≡ e) × IsTurn rest × HasParcel e n rest
OwesFirst e n _ = ⊥

-- and then no more
abbrev pub paid : List Note → List Note
paid (Duty (Owes (f ∷ gives)) ∷ rest) = Duty (Owes gives) ∷ unlot Ours f rest
paid notes = notes

-- a seat owes a token to this edge next, whose parcel is put
abbrev pub OwesToken : ℕ → List Note → Type 0
OwesToken e (Duty (Owes (f ∷ gives)) ∷ rest) = (f ≡ e) × IsTurn rest × (1 ≤ slot_weigh (lot Put e) rest)
OwesToken e _ = ⊥

abbrev pub paid_token : List Note → List Note
paid_token (Duty (Owes (f ∷ gives)) ∷ rest) = Duty (Owes gives) ∷ unlot Put f rest
paid_token notes = notes

-- a seat has just made this release
abbrev pub HasMade : ℕ → Cause → List Note → Type 0
HasMade u why (Duty (Fresh t cause) ∷ Has New ∷ rest) = (t ≡ u) × (cause ≡ why) × IsTurn rest
HasMade u why _ = ⊥

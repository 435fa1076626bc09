-- What the seats know of parcels, and the account of slots.
use Rattle.std.specs.Prelude.{◌≡◌, ℕ, zero, suc, ◌+◌, ◌≤◌, ◌&&◌, ◌==◌, List, [], ◌∷◌, ◌++◌, length, cond}
use Rattle.task_graph.specs.NetRows.{NetRows}
use Rattle.journal_rules.specs.declared.entry.Part.{Part}
use Rattle.journal_rules.specs.declared.entry.Part.TheVariants.{From, Nothing}
use Rattle.journal_rules.specs.declared.entry.Entry.{Entry}
use Rattle.journal_rules.specs.Counts.{given}
use Rattle.journal_rules.specs.Calm.{used_at}
use Rattle.table_steps.specs.Giving.{one_if, times}
use Rattle.table_steps.specs.declared.view.TurnDuty.{TurnDuty}
use Rattle.table_steps.specs.declared.view.TurnDuty.TheVariants.{Collecting, Owes}
use Rattle.table_steps.specs.declared.view.Lot.{Lot}
use Rattle.table_steps.specs.declared.view.Lot.TheVariants.{Ours, Putting, Put, Awaited, Taking, Fetched, Found}
use Rattle.table_steps.specs.declared.view.Note.{Note}
use Rattle.table_steps.specs.declared.view.Note.TheVariants.{Duty, Lies, Queued}
use Rattle.table_steps.specs.inside.Parcels.{same_part, part_times, DataPart}

-- What is counted over all seats.
pub data SlotCoord : Type 0 where
  -- parcels of this edge with this part
  parcel : ℕ → Part → SlotCoord
  -- what turns have to do with parcels of this edge
  lot : Lot → ℕ → SlotCoord
  -- parcels that lay in the slot of this edge, which a turn holds, by a measure of lists of parts
  queue : (List Part → ℕ) → ℕ → SlotCoord
  -- tokens of this edge that are owed, that are collected and not used, and that are still to be collected
  owed : ℕ → SlotCoord
  collected : ℕ → SlotCoord
  left_at : ℕ → SlotCoord

-- the lots in which a turn has a parcel
abbrev pub has_parcel : Lot → ℕ → ℕ
has_parcel Put n = 0
has_parcel Awaited n = 0
has_parcel Taking n = 0
has_parcel _ n = n

abbrev pub lot_weight : Lot → Lot → ℕ → ℕ
lot_weight Ours Ours n = n
lot_weight Putting Putting n = n
lot_weight Put Put n = n
lot_weight Awaited Awaited n = n
lot_weight Taking Taking n = n
lot_weight Fetched Fetched n = n
lot_weight Found Found n = n
lot_weight _ _ n = 0

abbrev pub duty_slots : SlotCoord → TurnDuty → ℕ
duty_slots (owed e) (Owes gives) = times e gives
duty_slots (collected e) (Collecting t cause taken left) = times e taken
duty_slots (left_at e) (Collecting t cause taken left) = times e left
duty_slots _ _ = 0

abbrev pub slot_weight : SlotCoord → Note → ℕ
slot_weight (parcel e p) (Lies k f q) = has_parcel k (one_if ((f == e) && same_part q p))
slot_weight (lot j e) (Lies k f q) = lot_weight j k (one_if (f == e))
slot_weight (queue measure e) (Queued f qs) = cond (f == e) (measure qs) 0
slot_weight c (Duty x) = duty_slots c x
slot_weight _ _ = 0

abbrev pub slot_weigh : SlotCoord → List Note → ℕ
slot_weigh c [] = 0
slot_weigh c (x ∷ xs) = slot_weight c x + slot_weigh c xs

abbrev pub slot_total : SlotCoord → List (List Note) → ℕ
slot_total c [] = 0
slot_total c (v ∷ vs) = slot_weigh c v + slot_total c vs

-- One seat exchanged these notes for those.
abbrev pub SlotMoves : (SlotCoord → ℕ) → List Note → (SlotCoord → ℕ) → List Note → Type 0
SlotMoves T old T' new = (c : SlotCoord) → T' c + slot_weigh c old ≡ T c + slot_weigh c new

-- turns that hold the slot of an edge
abbrev pub holders : (SlotCoord → ℕ) → ℕ → ℕ
holders T e = T (lot Putting e) + T (lot Taking e)

-- a part in the slot of an edge, or in it when it was taken
abbrev pub lying : (SlotCoord → ℕ) → (ℕ → List Part) → ℕ → Part → ℕ
lying T label e p = part_times p (label e) + T (queue (part_times p) e)

-- The account of slots: of each token that is owed the parcel is still to be put, or it is put; of each that is still
-- to be collected the parcel is still to be taken, or it is taken; and each that is collected has its parcel. Who holds
-- a slot knows what lay there. There are no more parcels than tokens were given.
pub record SlotPart (net : NetRows) (journal : List Entry) (edge : ℕ → ℕ) (T : SlotCoord → ℕ) (label : ℕ → List Part) : Type 0 where
  pub parts : DataPart net journal edge (λ e p. T (parcel e p)) (lying T label) (λ e. T (lot Fetched e)) (λ e. T (lot Put e))
  pub owing : (e : ℕ) → T (lot Ours e) + T (lot Putting e) + T (lot Put e) ≡ T (owed e)
  pub reached : (e : ℕ) → T (lot Awaited e) + T (lot Taking e) + T (lot Fetched e) ≡ T (left_at e)
  pub found : (e : ℕ) → T (lot Found e) ≡ T (collected e)
  pub held : (e : ℕ) → T (queue (λ qs. 1) e) ≡ holders T e
  pub few : (e : ℕ) → length (label e) + T (queue length e) + T (lot Ours e) + T (lot Putting e) ≤ given net e journal

-- what the other accounts say of these
pub record SlotBounds (net : NetRows) (journal : List Entry) (edge : ℕ → ℕ) (T : SlotCoord → ℕ) : Type 0 where
  pub tokens : (e : ℕ) → given net e journal ≡ used_at net e journal + edge e + (T (owed e) + T (collected e))
  pub within : (e : ℕ) → T (left_at e) ≤ edge e
  pub each : (e : ℕ) (p : Part) → T (parcel e p) ≤ T (lot Ours e) + T (lot Putting e) + T (lot Fetched e) + T (lot Found e)

-- lots as notes: of a release that is taken up, of one whose tokens are collected, and of an End
abbrev pub awaited_lots : List ℕ → List Note
awaited_lots [] = []
awaited_lots (e ∷ es) = Lies Awaited e Nothing ∷ awaited_lots es

abbrev pub found_lots : List ℕ → List Part → List Note
found_lots (e ∷ es) (p ∷ ps) = Lies Found e p ∷ found_lots es ps
found_lots _ _ = []

abbrev pub our_lots : ℕ → List ℕ → List Note
our_lots n [] = []
our_lots n (e ∷ es) = Lies Ours e (From n) ∷ our_lots n es

-- what a view has of slots: its parcels and lots, and the tokens that it owes or collects
abbrev pub slots_of : TurnDuty → List Note
slots_of (Collecting t cause taken left) = Duty (Collecting t cause taken left) ∷ []
slots_of (Owes gives) = Duty (Owes gives) ∷ []
slots_of _ = []

abbrev pub slots_in : List Note → List Note
slots_in [] = []
slots_in (Duty x ∷ rest) = slots_of x ++ slots_in rest
slots_in (Lies k e p ∷ rest) = Lies k e p ∷ slots_in rest
slots_in (Queued e ps ∷ rest) = Queued e ps ∷ slots_in rest
slots_in (note ∷ rest) = slots_in rest

-- A step changes no lot of a turn that holds a slot.
abbrev pub HoldsAlike : List Note → List Note → Type 0
HoldsAlike old new = (e : ℕ) → (slot_weigh (lot Putting e) new ≡ slot_weigh (lot Putting e) old) × (slot_weigh (lot Taking e) new ≡ slot_weigh (lot Taking e) old)

-- the part that a note names
abbrev pub part_in : Note → Part
part_in (Lies k e p) = p
part_in _ = Nothing

abbrev pub pick : ℕ → List Note → List Note → List Note
pick zero other same = other
pick (suc n) other same = same

-- the first lot of a kind at an edge becomes one of another kind
abbrev pub relot : Lot → Lot → (Part → Part) → ℕ → List Note → List Note
relot j k part f [] = []
relot j k part f (x ∷ rest) = pick (slot_weight (lot j f) x) (x ∷ relot j k part f rest) (Lies k f (part (part_in x)) ∷ rest)

-- or is used up
abbrev pub unlot : Lot → ℕ → List Note → List Note
unlot j f [] = []
unlot j f (x ∷ rest) = pick (slot_weight (lot j f) x) (x ∷ unlot j f rest) rest

-- The notes begin with a lot of each of these edges, whose parcel was found; their parts, and the notes after them.
abbrev pub FindsFirst : List ℕ → List Note → Type 0
FindsFirst [] rest = Unit {0}
FindsFirst (e ∷ es) (Lies Found f p ∷ rest) = (f ≡ e) × FindsFirst es rest
FindsFirst (e ∷ es) _ = ⊥

abbrev pub first_parts : List ℕ → List Note → List Part
first_parts [] rest = []
first_parts (e ∷ es) [] = []
first_parts (e ∷ es) (x ∷ rest) = part_in x ∷ first_parts es rest

abbrev pub first_lots : List ℕ → List Note → List Note
first_lots [] rest = []
first_lots (e ∷ es) [] = []
first_lots (e ∷ es) (x ∷ rest) = x ∷ first_lots es rest

abbrev pub after_lots : List ℕ → List Note → List Note
after_lots [] rest = rest
after_lots (e ∷ es) [] = []
after_lots (e ∷ es) (x ∷ rest) = after_lots es rest

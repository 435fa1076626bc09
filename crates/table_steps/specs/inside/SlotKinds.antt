-- What the steps on slots ask of a seat, and what they leave.
use Rattle.std.specs.Prelude.{◌≡◌, ℕ, zero, suc, ◌+◌, ◌<◌, ◌≤◌, Bool, true, false, Option, None, Some, List, [], ◌∷◌, ◌++◌, length}
use Rattle.task_graph.specs.NetRows.{NetRows}
use Rattle.journal_rules.specs.OnceNets.{IsOnceNet}
use Rattle.journal_rules.specs.declared.entry.Part.{Part}
use Rattle.journal_rules.specs.declared.entry.Part.TheVariants.{From, Nothing}
use Rattle.join_words.specs.declared.ins.Given.{Given}
use Rattle.join_words.specs.declared.ins.Given.TheVariants.{Nothing as NoValue}
use Rattle.atomic_table.specs.Table.{Me}
use Rattle.table_steps.specs.declared.view.Lot.{Lot}
use Rattle.table_steps.specs.declared.view.Lot.TheVariants.{Ours, Putting, Put, Awaited, Taking, Fetched}
use Rattle.table_steps.specs.declared.view.Note.{Note}
use Rattle.table_steps.specs.declared.view.Note.TheVariants.{Queued}
use Rattle.table_steps.specs.inside.Slots.{lot, slot_weight, slot_weigh, part_in, relot}
use Rattle.table_steps.specs.inside.Kinds.{IsTurn}

-- the part of the first lot of a kind at an edge
abbrev pub pick_part : ℕ → Part → Part → Part
pick_part zero other same = other
pick_part (suc n) other same = same

abbrev pub lot_part : Lot → ℕ → List Note → Part
lot_part j f [] = Nothing
lot_part j f (x ∷ rest) = pick_part (slot_weight (lot j f) x) (lot_part j f rest) (part_in x)

-- that is the value of an End
pub record FromEnd (part : Part) : Type 0 where
  pub place : ℕ
  pub is : part ≡ From place

-- SLOT TAKEN: what a turn asks that has a parcel to put there
pub record MayTryPut (f : ℕ) (v : List Note) : Type 0 where
  pub ours : 1 ≤ slot_weigh (lot Ours f) v
  pub from : FromEnd (lot_part Ours f v)
  pub turn : IsTurn v

-- and one that has a parcel to take
pub record MayTryTake (f : ℕ) (v : List Note) : Type 0 where
  pub awaited : 1 ≤ slot_weigh (lot Awaited f) v
  pub turn : IsTurn v

abbrev pub MayTry : Bool → ℕ → List Note → Type 0
MayTry true f v = MayTryPut f v
MayTry false f v = MayTryTake f v

-- Where another turn holds the slot, it tries again. After the last try it gives up: it leaves its parcel away, or
-- finds nothing.
abbrev pub missed : Bool → Bool → ℕ → List Note → List Note
missed false puts f v = v
missed true true f v = relot Ours Put (λ p. p) f v
missed true false f v = relot Awaited Fetched (λ p. Nothing) f v

-- Where the mark was clear, it holds the slot, and knows what lies there.
abbrev pub tried : Bool → Bool → ℕ → List Part → ℕ → List Note → List Note
tried last true f qs zero v = Queued f qs ∷ relot Ours Putting (λ p. p) f v
tried last false f qs zero v = Queued f qs ∷ relot Awaited Taking (λ p. p) f v
tried last puts f qs (suc n) v = missed last puts f v

-- beside what it held
abbrev pub HoldsIf : {S : Type 0} → ℕ → ℕ → List (ℕ × S) → List (ℕ × S) → Type 0
HoldsIf f zero before ((k, y) ∷ rest) = (k ≡ f) × (rest ≡ before)
HoldsIf f zero before [] = ⊥
HoldsIf f (suc n) before after = after ≡ before

-- and these parts lie there
abbrev pub LieThere : {S : Type 0} → (S → List Part) → List Part → ℕ → List (ℕ × S) → Type 0
LieThere parts qs zero ((k, y) ∷ rest) = parts y ≡ qs
LieThere parts qs zero [] = ⊥
LieThere parts qs (suc n) after = Unit {0}

-- so few that one more can be put there, and none before the one token that an edge is given
pub record TriedSlot {S : Type 0} (net : NetRows) (parts : S → List Part) (last puts : Bool) (f n : ℕ) (before after : Me S (List Note)) : Type 0 where
  pub parts_are : List Part
  pub view : after.0 ≡ tried last puts f parts_are n before.0
  pub holds : HoldsIf f n before.1 after.1
  pub lie : LieThere parts parts_are n after.1
  pub few : length parts_are + 1 < 9223372036854775808
  pub once : puts ≡ true → IsOnceNet net → parts_are ≡ []

-- the slot that a seat took last is that of this edge, and these parts lie there
abbrev pub HasLaid : {S : Type 0} → (S → List Part) → ℕ → List Part → List (ℕ × S) → Type 0
HasLaid parts f qs ((k, y) ∷ rest) = (k ≡ f) × (parts y ≡ qs)
HasLaid parts f qs [] = ⊥

-- the seat holds the slot
abbrev pub HoldsSlot : {S : Type 0} → ℕ → List (ℕ × S) → Type 0
HoldsSlot f ((k, y) ∷ rest) = k ≡ f
HoldsSlot f [] = ⊥

-- it knows what lay there
abbrev pub HasQueue : ℕ → List Note → Type 0
HasQueue f (Queued g qs ∷ v) = g ≡ f
HasQueue f _ = ⊥

abbrev pub queued : List Note → List Part
queued (Queued g qs ∷ v) = qs
queued _ = []

abbrev pub after_queue : List Note → List Note
after_queue (Queued g qs ∷ v) = v
after_queue v = v

-- SLOT GIVEN BACK, after the exchange: with the parcel behind those that lay there
pub record MayPutBack {S : Type 0} (parts : S → List Part) (f : ℕ) (me : Me S (List Note)) : Type 0 where
  pub queue : HasQueue f me.0
  pub putting : 1 ≤ slot_weigh (lot Putting f) (after_queue me.0)
  pub from : FromEnd (lot_part Putting f (after_queue me.0))
  pub turn : IsTurn (after_queue me.0)
  pub laid : HasLaid parts f (queued me.0 ++ lot_part Putting f (after_queue me.0) ∷ []) me.1

abbrev pub put_laid : ℕ → List Note → List Note
put_laid f v = relot Putting Put (λ p. p) f (after_queue v)

-- or without the oldest of them
abbrev pub oldest : List Part → Part
oldest [] = Nothing
oldest (p ∷ ps) = p

abbrev pub later : List Part → List Part
later [] = []
later (p ∷ ps) = ps

pub record MayTakeBack {S : Type 0} (parts : S → List Part) (f : ℕ) (me : Me S (List Note)) : Type 0 where
  pub queue : HasQueue f me.0
  pub taking : 1 ≤ slot_weigh (lot Taking f) (after_queue me.0)
  pub turn : IsTurn (after_queue me.0)
  pub laid : HasLaid parts f (later (queued me.0)) me.1

abbrev pub take_laid : ℕ → List Note → List Note
take_laid f v = relot Taking Fetched (λ p. oldest (queued v)) f (after_queue v)

-- The first of these parcels, which is `Nothing` where there is none, and the others.
abbrev pub IsOldest : {V : Type 0} → List (Given V) → Given V → List (Given V) → Type 0
IsOldest [] given others = (given ≡ NoValue) × (others ≡ [])
IsOldest (y ∷ ys) given others = (given ≡ y) × (others ≡ ys)

-- the parcels of a slot whose oldest came bare, or whose others all came with a node
abbrev pub queue_of : {V : Type 0} → Option (Given V) → List (Given V) → List (Given V)
queue_of None others = others
queue_of (Some given) others = given ∷ others

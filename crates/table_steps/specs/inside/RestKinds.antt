-- What the steps of a rest ask of its seat's notes, and what they leave. What is known of the rest comes first, then
-- its turns, the last first, and then the Drops that it drew.
use Rattle.std.specs.Prelude.{◌≡◌, ◌≢◌, ◌==◌, ℕ, zero, suc, ◌<◌, ◌≤◌, Bool, true, false, nat_lt, List, [], ◌∷◌, ◌++◌, length, IsTrue}
use Rattle.task_graph.specs.NetRows.{NetRows}
use Rattle.journal_rules.specs.declared.entry.DropWhy.{DropWhy}
use Rattle.journal_rules.specs.declared.entry.DropWhy.TheVariants.{Stuck, Halted as AfterFault}
use Rattle.journal_rules.specs.declared.entry.Entry.TheVariants.{Drop}
use Rattle.journal_rules.specs.SemaphoreRule.{takes, max_of}
use Rattle.table_steps.specs.Giving.{times}
use Rattle.table_steps.specs.declared.view.TurnDuty.TheVariants.{Told, Collecting, Owes}
use Rattle.table_steps.specs.declared.view.SemaphoreRole.TheVariants.{Held, Undo, Owed, Full}
use Rattle.table_steps.specs.declared.view.SeatMark.TheVariants.{Live, ToMark, Halted, Alone, Quiet, Sticking}
use Rattle.table_steps.specs.declared.view.Note.{Note}
use Rattle.table_steps.specs.declared.view.Note.TheVariants.{Duty, Sems, Has}
use Rattle.table_steps.specs.inside.Duties.{running}
use Rattle.table_steps.specs.inside.Accounts.{duty, sem, mark, busy, resting, telling, weigh}
use Rattle.table_steps.specs.inside.Kinds.{Lone}
use Rattle.table_steps.specs.inside.Slots.{FindsFirst, first_lots, after_lots}

-- what is known of a rest that is alone, and the notes without that
abbrev pub known_part : List Note → List Note
known_part (Sems Full l ∷ Has Quiet ∷ rest) = Sems Full l ∷ Has Quiet ∷ []
known_part (Sems Full l ∷ Has Alone ∷ Has Halted ∷ rest) = Sems Full l ∷ Has Alone ∷ Has Halted ∷ []
known_part notes = []

abbrev pub bare_part : List Note → List Note
bare_part (Sems Full l ∷ Has Quiet ∷ rest) = rest
bare_part (Sems Full l ∷ Has Alone ∷ Has Halted ∷ rest) = rest
bare_part notes = notes

-- JOIN. A rest takes in a turn. That it is alone is forgotten.
pub record MayPark (v w : List Note) : Type 0 where
  pub rests : 1 ≤ weigh (mark Live) v
  pub lives : 1 ≤ weigh (mark Live) w
  pub lone : Lone w

abbrev pub parked : List Note → List Note → List Note
parked v w = w ++ bare_part v

-- SPLIT. A rest hands its last turn out, and forgets that it is alone.
pub record CoversItself (v : List Note) : Type 0 where
  pub lone : weigh resting v ≡ 0
  pub covered : weigh (mark Live) v ≡ 0 → weigh busy v ≡ 0
  pub told : weigh (mark Live) v ≡ 0 → weigh telling v ≡ 0

abbrev pub HasLast : List Note → Type 0
HasLast (Duty (Collecting t cause taken []) ∷ Has Live ∷ Sems Held [] ∷ rest) = FindsFirst taken rest × CoversItself (after_lots taken rest)
HasLast _ = ⊥

abbrev pub MayHandOut : List Note → Type 0
MayHandOut v = HasLast (bare_part v)

-- the notes of the last turn, and those of the others
abbrev pub last_turn : List Note → List Note
last_turn (Duty (Collecting t cause taken left) ∷ Has Live ∷ Sems Held l ∷ rest) = Duty (Collecting t cause taken left) ∷ Has Live ∷ Sems Held l ∷ first_lots taken rest
last_turn notes = notes

abbrev pub other_turns : List Note → List Note
other_turns (Duty (Collecting t cause taken left) ∷ Has Live ∷ Sems Held l ∷ rest) = after_lots taken rest
other_turns notes = []

abbrev pub handed_out : List Note → List Note
handed_out v = last_turn (bare_part v)

abbrev pub left_behind : List Note → List Note
left_behind v = other_turns (bare_part v)

-- LIVE LOAD. A rest that finds the number of its turns is alone.
abbrev pub alone_notes : Bool → List Note
alone_notes true = Has Alone ∷ []
alone_notes false = []

abbrev pub live_found : ℕ → List Note → List Note
live_found n v = alone_notes (n == weigh (mark Live) v) ++ v

-- HALT LOAD, by a rest that is alone. One that finds no mark knows that the journal has no Fault.
abbrev pub MayLook : List Note → Type 0
MayLook (Has Alone ∷ rest) = Lone rest × (1 ≤ weigh (mark Live) rest) × (weigh (mark ToMark) rest ≡ 0)
MayLook _ = ⊥

abbrev pub looked : ℕ → List Note → List Note
looked zero (Has Alone ∷ rest) = Sems Full [] ∷ Has Quiet ∷ rest
looked (suc n) (Has Alone ∷ rest) = Sems Full [] ∷ Has Alone ∷ Has Halted ∷ rest
looked n notes = notes

-- UNIT LOAD, by a rest that is alone. Where it finds as many takes as there are units, there is none.
pub record HasNoUnit (a : ℕ) (rest : List Note) : Type 0 where
  pub held : weigh (sem Held a) rest ≡ 0
  pub owed : weigh (sem Owed a) rest ≡ 0
  pub undo : weigh (sem Undo a) rest ≡ 0

abbrev pub MayAskForUnit : NetRows → ℕ → List Note → Type 0
MayAskForUnit net a (Sems Full l ∷ rest) = (a < length net.sems) × (1 ≤ weigh (mark Live) rest) × (weigh resting rest ≢ 0) × HasNoUnit a rest
MayAskForUnit net a _ = ⊥

abbrev pub full_with : Bool → ℕ → List ℕ → List ℕ
full_with true a l = l
full_with false a l = a ∷ l

abbrev pub with_unit_asked : NetRows → ℕ → ℕ → List Note → List Note
with_unit_asked net a n (Sems Full l ∷ rest) = Sems Full (full_with (nat_lt n (max_of net a)) a l) ∷ rest
with_unit_asked net a n notes = notes

-- DROP DRAWN, of the last turn of a rest that is alone: for want of a unit where the journal has no Fault, or
-- after one
abbrev pub MayDropLast : NetRows → DropWhy → List Note → Type 0
MayDropLast net (Stuck a) (Sems Full l ∷ Has Quiet ∷ Duty (Collecting t cause taken []) ∷ Has Live ∷ Sems Held [] ∷ rest) = IsTrue (takes net a t) × (1 ≤ times a l) × (weigh (duty running) rest ≡ 0) × FindsFirst taken rest
MayDropLast net AfterFault (Sems Full l ∷ Has Alone ∷ Has Halted ∷ Duty (Collecting t cause taken []) ∷ Has Live ∷ Sems Held [] ∷ rest) = (weigh (mark Sticking) rest ≡ 0) × FindsFirst taken rest
MayDropLast net why _ = ⊥

abbrev pub last_dropped : DropWhy → ℕ → List Note → List Note
last_dropped why n (Sems Full l ∷ Has Quiet ∷ Duty (Collecting t cause taken left) ∷ Has Live ∷ Sems Held h ∷ rest) = Duty (Owes []) ∷ Has Live ∷ Sems Full l ∷ Has Quiet ∷ after_lots taken rest ++ Duty (Told n (Drop t cause why)) ∷ Has Sticking ∷ []
last_dropped why n (Sems Full l ∷ Has Alone ∷ Has Halted ∷ Duty (Collecting t cause taken left) ∷ Has Live ∷ Sems Held h ∷ rest) = Duty (Owes []) ∷ Has Live ∷ Sems Full l ∷ Has Alone ∷ Has Halted ∷ after_lots taken rest ++ Duty (Told n (Drop t cause why)) ∷ []
last_dropped why n notes = notes

-- TURN TAKEN OFF, where the rest has others
abbrev pub MayThin : List Note → Type 0
MayThin (Duty (Owes []) ∷ Has Live ∷ rest) = 1 ≤ weigh (mark Live) rest
MayThin _ = ⊥

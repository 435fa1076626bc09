-- What each step asks of the seat's notes, and what it leaves.
use Rattle.std.specs.Prelude.{◌≡◌, ◌≢◌, ℕ, zero, suc, ◌<◌, ◌≤◌, Bool, true, false, not, nat_lt, List, [], ◌∷◌, ◌++◌, length}
use Rattle.task_graph.specs.Net.{is_weak, strong_in}
use Rattle.journal_rules.specs.declared.entry.Cause.{Cause}
use Rattle.journal_rules.specs.declared.entry.Cause.TheVariants.{Source, Strong, Weak}
use Rattle.journal_rules.specs.declared.entry.Entry.TheVariants.{Start, End}
use Rattle.journal_rules.specs.DataRule.{edges_of}
use Rattle.journal_rules.specs.SemaphoreRule.{puts}
use Rattle.task_graph.specs.NetRows.{NetRows}
use Rattle.table_steps.specs.declared.view.TurnDuty.{TurnDuty}
use Rattle.table_steps.specs.declared.view.TurnDuty.TheVariants.{Told, Fresh, Collecting, Ticket, Open, Owes, Counting}
use Rattle.table_steps.specs.declared.view.SeatMark.TheVariants.{Live, New, Over, Asked}
use Rattle.table_steps.specs.declared.view.Note.{Note}
use Rattle.table_steps.specs.declared.view.SemaphoreRole.TheVariants.{Held, Owed, Both, Credit, Credited, Claim, Granted}
use Rattle.table_steps.specs.declared.view.Note.TheVariants.{Duty, Sems, Has}
use Rattle.table_steps.specs.inside.Accounts.{duty, mark, busy, resting, telling, weigh, only_puts, AllStand}
use Rattle.journal_rules.specs.declared.entry.Entry.{Entry}
use Rattle.journal_rules.specs.declared.entry.Part.{Part}
use Rattle.table_steps.specs.declared.view.Lot.TheVariants.{Put, Fetched, Found}
use Rattle.table_steps.specs.inside.Slots.{lot, slot_weigh, awaited_lots, our_lots, relot, unlot, FindsFirst, first_parts, after_lots}
use Rattle.journal_rules.specs.ShapeLegal.{ShapeLegal, MeetsDataRule}
use Rattle.journal_rules.specs.Complete.{Complete}
use Rattle.table_steps.specs.inside.Duties.{place, after_take}
use Rattle.table_steps.specs.Giving.{times, target, MayEndGiving}
use Rattle.table_steps.specs.Holding.{HoldsEachUnit, PutsEach, TakesAlone}

-- the rest of a view, of a turn that is no rest
abbrev pub Lone : List Note → Type 0
Lone rest = weigh resting rest ≡ 0

-- one with its live turn
abbrev pub IsTurn : List Note → Type 0
IsTurn rest = (weigh resting rest ≡ 0) × (1 ≤ weigh (mark Live) rest)

-- duties as notes, and turns that are still to be counted
abbrev pub wrap : List TurnDuty → List Note
wrap [] = []
wrap (x ∷ xs) = Duty x ∷ wrap xs

abbrev pub news : ℕ → List Note
news zero = []
news (suc n) = Has New ∷ news n

-- SET AGAIN. The join word of a task whose release a seat holds is raised by its strong in-edges.
abbrev pub MayReset : NetRows → ℕ → List Note → Type 0
MayReset net u (Duty (Fresh t Strong) ∷ Has Live ∷ rest) = (t ≡ u) × Lone rest
MayReset net u _ = ⊥

-- a release by another cause is taken up without a change of words
abbrev pub MayTakeUp : List Note → Type 0
MayTakeUp (Duty (Fresh t Source) ∷ Has Live ∷ rest) = Lone rest
MayTakeUp (Duty (Fresh t (Weak e)) ∷ Has Live ∷ rest) = Lone rest
MayTakeUp _ = ⊥

-- It has a parcel to take of each edge, and holds no unit yet.
abbrev pub collecting_notes : ℕ → Cause → List ℕ → List Note
collecting_notes t cause es = Duty (Collecting t cause [] es) ∷ Has Live ∷ Sems Held [] ∷ awaited_lots es

abbrev pub taken_up : NetRows → List Note → List Note
taken_up net (Duty (Fresh t cause) ∷ Has Live ∷ rest) = collecting_notes t cause (edges_of net t cause) ++ rest
taken_up net notes = notes

-- TOKEN TAKEN, from the next edge of a release, after its parcel. Where a token remains at a strong edge, that is to be
-- counted.
abbrev pub TakesNextToken : NetRows → ℕ → List Note → Type 0
TakesNextToken net f (Duty (Collecting t cause taken (g ∷ left)) ∷ rest) = (g ≡ f) × (f < length net.edges) × IsTurn rest × (1 ≤ slot_weigh (lot Fetched f) rest)
TakesNextToken net f _ = ⊥

abbrev pub took : ℕ → List Note → List Note
took found (Duty (Collecting t cause taken (f ∷ left)) ∷ rest) = wrap (after_take t cause taken found f left) ++ relot Fetched Found (λ p. p) f rest
took found notes = notes

-- TOKEN GIVEN, to the next edge that an end owes, after its parcel. It releases the target of a weak edge. At a strong
-- one the first token is to be counted.
abbrev pub OwesNext : NetRows → ℕ → List Note → Type 0
OwesNext net f (Duty (Owes (g ∷ gives)) ∷ rest) = (g ≡ f) × (f < length net.edges) × IsTurn rest × (1 ≤ slot_weigh (lot Put f) rest)
OwesNext net f _ = ⊥

abbrev pub given_notes : Bool → ℕ → ℕ → ℕ → List ℕ → List Note
given_notes true t found f gives = Duty (Fresh t (Weak f)) ∷ Has New ∷ Duty (Owes gives) ∷ []
given_notes false t zero f gives = Duty (Counting f) ∷ Duty (Owes gives) ∷ []
given_notes false t (suc n) f gives = Duty (Owes gives) ∷ []

abbrev pub gave : NetRows → ℕ → ℕ → List Note → List Note
gave net f found (Duty (Owes (g ∷ gives)) ∷ rest) = given_notes (is_weak net f) (target net f) found f gives ++ unlot Put f rest
gave net f found notes = notes

-- EDGE COUNTED, at its target. The count that finds one left releases the task.
abbrev pub CountsNext : NetRows → ℕ → ℕ → List Note → Type 0
CountsNext net t f (Duty (Counting g) ∷ rest) = (g ≡ f) × (t < length net.tasks) × (times f (strong_in net t) ≡ 1) × IsTurn rest
CountsNext net t f _ = ⊥

abbrev pub counted_notes : ℕ → ℕ → List Note
counted_notes t zero = []
counted_notes t (suc zero) = Duty (Fresh t Strong) ∷ Has New ∷ []
counted_notes t (suc (suc n)) = []

abbrev pub counted_one : ℕ → ℕ → List Note → List Note
counted_one t found (Duty (Counting g) ∷ rest) = counted_notes t found ++ rest
counted_one t found notes = notes

-- nothing is left to collect of a release of the task
abbrev pub AreNoneLeft : ℕ → List Note → Type 0
AreNoneLeft t (Duty (Collecting u Strong taken left) ∷ rest) = u ≡ t → left ≡ []
AreNoneLeft t _ = Unit {0}

-- all notes but the first
abbrev pub others_of : List Note → List Note
others_of [] = []
others_of (x ∷ xs) = xs

-- a seat that has nothing to count
abbrev pub without_count : List Note → List Note
without_count (Duty (Counting g) ∷ rest) = rest
without_count notes = notes

-- TURN ADDED, for a release that a seat has just made
abbrev pub MayAdd : List Note → Type 0
MayAdd (Duty (Fresh t cause) ∷ Has New ∷ rest) = IsTurn rest
MayAdd _ = ⊥

abbrev pub with_turn_added : List Note → List Note
with_turn_added (Duty (Fresh t cause) ∷ Has New ∷ rest) = Duty (Fresh t cause) ∷ Has Live ∷ rest
with_turn_added notes = notes

-- SPLIT. A release with its live turn goes to a new seat.
abbrev pub MayDeal : ℕ → List Note → Type 0
MayDeal id (Duty (Fresh t cause) ∷ Has Live ∷ rest) = (weigh resting rest ≡ 0) × (weigh (mark Live) rest ≡ 0 → weigh busy rest ≡ 0) × (id ≢ 0 → weigh (mark Live) rest ≡ 0 → weigh telling rest ≡ 0)
MayDeal id _ = ⊥

abbrev pub dealt : List Note → List Note
dealt (x ∷ y ∷ rest) = x ∷ y ∷ []
dealt notes = notes

abbrev pub kept_back : List Note → List Note
kept_back (x ∷ y ∷ rest) = rest
kept_back notes = []

-- ADMISSION DRAWN, by a turn that has looked for the halt mark. It has a ticket, or is refused at the limit.
abbrev pub MayAdmit : List Note → Type 0
MayAdmit (Duty (Collecting t cause taken left) ∷ Has Live ∷ Has Asked ∷ rest) = Lone rest
MayAdmit _ = ⊥

abbrev pub admitted_notes : Bool → TurnDuty → List Note
admitted_notes true x = Duty x ∷ Duty Ticket ∷ Has Live ∷ []
admitted_notes false x = Duty x ∷ Has Over ∷ []

abbrev pub admitted : ℕ → ℕ → List Note → List Note
admitted limit n (Duty x ∷ Has Live ∷ Has Asked ∷ rest) = admitted_notes (nat_lt n limit) x ++ rest
admitted limit n notes = notes

-- those of a list that pass, and the numbers below one that do
abbrev pub add_if : Bool → ℕ → List ℕ → List ℕ
add_if true s l = s ∷ l
add_if false s l = l

abbrev pub among : (ℕ → Bool) → List ℕ → List ℕ
among test [] = []
among test (s ∷ l) = add_if (test s) s (among test l)

abbrev pub numbers_below : (ℕ → Bool) → ℕ → List ℕ
numbers_below test zero = []
numbers_below test (suc k) = add_if (test k) k (numbers_below test k)

-- Of the units that a turn holds, its start gives those back at its end that the task puts, and credits the others.
-- What the task puts besides is to be claimed.
abbrev pub own_units : NetRows → ℕ → List ℕ → List ℕ
own_units net t l = among (λ s. puts net s t) l

abbrev pub credits_due : NetRows → ℕ → List ℕ → List ℕ
credits_due net t l = among (λ s. not (puts net s t)) l

abbrev pub claims_due : NetRows → ℕ → List ℕ
claims_due net t = numbers_below (λ s. only_puts net s t) (length net.sems)

-- START DRAWN, with the parts that were found, and what a start then knows of semaphores
abbrev pub sems_notes : List ℕ → List ℕ → List ℕ → List ℕ → List ℕ → List Note
sems_notes both credit credited claim granted = Sems Both both ∷ Sems Credit credit ∷ Sems Credited credited ∷ Sems Claim claim ∷ Sems Granted granted ∷ []

abbrev pub started_notes : NetRows → ℕ → ℕ → Cause → List ℕ → List Part → List Note
started_notes net n t cause l ins = Duty (Open n t) ∷ Has Live ∷ sems_notes (own_units net t l) (credits_due net t l) [] (claims_due net t) [] ++ Duty (Told n (Start t cause ins)) ∷ []

abbrev pub MayDrawStart : NetRows → List Note → Type 0
MayDrawStart net (Duty (Collecting t cause taken []) ∷ Duty Ticket ∷ Has Live ∷ Sems Held l ∷ rest) = HoldsEachUnit net t l × FindsFirst taken rest × Lone rest
MayDrawStart net _ = ⊥

abbrev pub with_start_drawn : NetRows → ℕ → List Note → List Note
with_start_drawn net n (Duty (Collecting t cause taken left) ∷ Duty Ticket ∷ Has Live ∷ Sems Held l ∷ rest) = started_notes net n t cause l (first_parts taken rest) ++ after_lots taken rest
with_start_drawn net n notes = notes

-- END DRAWN, of a start with nothing left to credit and to claim. It owes the units that its task puts, and a parcel to
-- each edge that it gives.
abbrev pub MayEnd : NetRows → List ℕ → Bool → List Note → Type 0
MayEnd net gives inner (Duty (Open m t) ∷ Has Live ∷ Sems Both b ∷ Sems Credit c ∷ Sems Credited d ∷ Sems Claim l ∷ Sems Granted g ∷ rest) = MayEndGiving net t gives inner × (c ≡ []) × TakesAlone net t d × (l ≡ []) × PutsEach net t (g ++ b) × Lone rest
MayEnd net gives inner _ = ⊥

abbrev pub with_end_drawn : List ℕ → Bool → ℕ → List Note → List Note
with_end_drawn gives inner n (Duty (Open m t) ∷ Has Live ∷ Sems Both b ∷ Sems Credit c ∷ Sems Credited d ∷ Sems Claim l ∷ Sems Granted g ∷ rest) = Duty (Owes gives) ∷ Has Live ∷ Sems Owed (g ++ b) ∷ Duty (Told n (End m gives inner)) ∷ our_lots n gives ++ rest
with_end_drawn gives inner n notes = notes

-- JOIN. The keeper's seat takes in the notes of a turn.
abbrev pub views_joined : List Note → List Note → List Note
views_joined v w = w ++ v

-- TURN TAKEN OFF, once it owes nothing
abbrev pub MayLeave : List Note → Type 0
MayLeave (Duty (Owes []) ∷ Has Live ∷ rest) = weigh (mark Live) rest ≡ 0 → weigh busy rest ≡ 0
MayLeave _ = ⊥

abbrev pub left_by : List Note → List Note
left_by (Duty (Owes []) ∷ Has Live ∷ rest) = rest
left_by notes = notes

-- JOIN. A turn that owes nothing takes in a live one, and its own live turn stays in front, to be taken off.
abbrev pub MayGather : List Note → List Note → Type 0
MayGather (Duty (Owes []) ∷ Has Live ∷ rest) w = 1 ≤ weigh (mark Live) w
MayGather _ w = ⊥

abbrev pub both_turns : List Note → List Note → List Note
both_turns (Duty (Owes []) ∷ Has Live ∷ rest) w = Duty (Owes []) ∷ Has Live ∷ w ++ rest
both_turns v w = w ++ v

-- The notes have the entries of a whole run, each once.
pub record IsWhole (net : NetRows) (limit : ℕ) (notes : List Note) : Type 0 where
  pub journal : List Entry
  pub legal : ShapeLegal net limit journal
  pub meets : MeetsDataRule net journal
  pub complete : Complete net limit journal
  pub each : (m : ℕ) → m < length journal → weigh (duty (place m)) notes ≡ 1
  pub stand : AllStand net journal notes

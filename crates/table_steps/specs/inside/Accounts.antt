-- What the words, the seats and the journal of a run have to do with each other.
use Rattle.std.specs.Prelude.{◌≡◌, ◌≢◌, ℕ, zero, suc, ◌+◌, ◌*◌, ◌<◌, ◌≤◌, Bool, true, false, not, ◌&&◌, nat_lt, Some, List, [], ◌∷◌, ◌++◌, length, count_by, slice_get, slice_index, if◌then◌else◌}
use Rattle.std.specs.Option.{option_map_or}
use mathlib.Core.Option.{some}
use lib.ListN.{get_elem?}
use Rattle.atomic_table.specs.Table.{State}
use Rattle.std.specs.List.{AllByRecursion}
use Rattle.journal_rules.specs.DataRule.{edges_of}
use Rattle.task_graph.specs.NetRows.{NetRows}
use Rattle.task_graph.specs.Net.{IsNet}
use Rattle.journal_rules.specs.declared.entry.Entry.{Entry}
use Rattle.journal_rules.specs.declared.entry.Entry.TheVariants.{Start, Drop}
use Rattle.journal_rules.specs.Counts.{start_at, started, closes, starts, faults}
use Rattle.journal_rules.specs.HaltLimitStuckRule.{is_stuck}
use Rattle.journal_rules.specs.SemaphoreRule.{takes, puts, taken, back, max_of, closed_takers, IsOverRelease}
use Rattle.journal_rules.specs.Complete.{is_limited}
use Rattle.journal_rules.specs.Limits.{max_limit}
use Rattle.journal_rules.specs.ShapeLegal.{ShapeLegal}
use Rattle.table_steps.specs.Releases.{MayBeReleased}
use Rattle.table_steps.specs.declared.view.TurnDuty.{TurnDuty}
use Rattle.table_steps.specs.declared.view.TurnDuty.TheVariants.{Told, Fresh, Collecting, Open, Owes}
use Rattle.table_steps.specs.inside.Duties.{DutyCoord, place, runs, running, tickets, duty_weight, is_run, EdgePart, DutyPart}
use Rattle.table_steps.specs.Giving.{one_if, times}
use Rattle.table_steps.specs.inside.Slots.{slot_total, holders, SlotPart}
use Rattle.table_steps.specs.inside.SlotMarks.{Homes, label_of}
use Rattle.journal_rules.specs.declared.entry.Part.{Part}
use Rattle.table_steps.specs.Credits.{first_credit}
use Rattle.table_steps.specs.inside.Opening.{first_duties}
use Rattle.table_steps.specs.declared.view.SemaphoreRole.{SemaphoreRole}
use Rattle.table_steps.specs.declared.view.SemaphoreRole.TheVariants.{Held, Undo, Owed, Both, Credit, Credited, Claim, Granted, Refusing, Denied, Full}
use Rattle.table_steps.specs.declared.view.SeatMark.{SeatMark}
use Rattle.table_steps.specs.declared.view.SeatMark.TheVariants.{Live, New, Over, ToMark, Halted, Alone, Quiet, Sticking}
use Rattle.table_steps.specs.declared.view.Note.{Note}
use Rattle.table_steps.specs.declared.view.Note.TheVariants.{Duty, Sems, Has, Unfit}

-- What is counted over all seats.
pub data Coord : Type 0 where
  duty : DutyCoord → Coord
  sem : SemaphoreRole → ℕ → Coord
  mark : SeatMark → Coord
  -- what only a live turn has
  busy : Coord
  -- what only a rest has
  resting : Coord
  -- turns, by their releases, starts and ends; and those after their end
  turning : Coord
  owing : Coord
  -- entries
  telling : Coord

abbrev pub sems_weight : SemaphoreRole → SemaphoreRole → ℕ → List ℕ → ℕ
sems_weight Held Held s l = times s l
sems_weight Undo Undo s l = times s l
sems_weight Owed Owed s l = times s l
sems_weight Both Both s l = times s l
sems_weight Credit Credit s l = times s l
sems_weight Credited Credited s l = times s l
sems_weight Claim Claim s l = times s l
sems_weight Granted Granted s l = times s l
sems_weight Refusing Refusing s l = times s l
sems_weight Denied Denied s l = times s l
sems_weight Full Full s l = times s l
sems_weight _ _ s l = 0

abbrev pub mark_weight : SeatMark → SeatMark → ℕ
mark_weight Live Live = 1
-- a turn that was refused at the limit is live
mark_weight Live Over = 1
mark_weight New New = 1
mark_weight Over Over = 1
mark_weight ToMark ToMark = 1
mark_weight Halted Halted = 1
mark_weight Alone Alone = 1
mark_weight Quiet Quiet = 1
mark_weight Sticking Sticking = 1
mark_weight _ _ = 0

-- so is one that has to undo a take
abbrev pub lives : SeatMark → SemaphoreRole → List ℕ → ℕ
lives Live Undo l = length l
lives _ _ l = 0

-- a rest is alone
abbrev pub rests : SeatMark → ℕ
rests Alone = 1
rests Quiet = 1
rests Sticking = 1
rests _ = 0

abbrev pub full_rests : SemaphoreRole → List ℕ → ℕ
full_rests Full l = length l
full_rests _ l = 0

abbrev pub mark_busy : SeatMark → ℕ
mark_busy New = 1
mark_busy Over = 1
mark_busy ToMark = 1
mark_busy _ = 0

-- units and calls; claims may stay behind
abbrev pub kind_busy : SemaphoreRole → List ℕ → ℕ
kind_busy Held l = length l
kind_busy Undo l = length l
kind_busy Owed l = length l
kind_busy _ l = 0

abbrev pub duty_busy : TurnDuty → ℕ
duty_busy (Told n x) = 0
duty_busy _ = 1

abbrev pub duty_turns : TurnDuty → ℕ
duty_turns (Fresh t cause) = 1
duty_turns (Collecting t cause taken left) = 1
duty_turns (Open n t) = 1
duty_turns (Owes gives) = 1
duty_turns _ = 0

abbrev pub duty_owes : TurnDuty → ℕ
duty_owes (Owes gives) = 1
duty_owes _ = 0

abbrev pub duty_tells : TurnDuty → ℕ
duty_tells (Told n x) = 1
duty_tells _ = 0

abbrev pub weight : Coord → Note → ℕ
weight (duty c) (Duty x) = duty_weight c x
weight (sem k s) (Sems j l) = sems_weight k j s l
weight (mark m) (Has k) = mark_weight m k
weight (mark m) (Sems k l) = lives m k l
weight busy (Duty x) = duty_busy x
weight busy (Sems k l) = kind_busy k l
weight busy (Has k) = mark_busy k
weight resting (Has k) = rests k
weight turning (Duty x) = duty_turns x
weight owing (Duty x) = duty_owes x
weight telling (Duty x) = duty_tells x
weight resting (Sems k l) = full_rests k l
weight _ _ = 0

abbrev pub weigh : Coord → List Note → ℕ
weigh c [] = 0
weigh c (x ∷ xs) = weight c x + weigh c xs

abbrev pub total : Coord → List (List Note) → ℕ
total c [] = 0
total c (v ∷ vs) = weigh c v + total c vs

-- what a note says of the net alone
abbrev pub FitsItem : NetRows → TurnDuty → Type 0
FitsItem net (Fresh t cause) = MayBeReleased net t cause
FitsItem net (Collecting t cause taken left) = MayBeReleased net t cause × (taken ++ left ≡ edges_of net t cause)
FitsItem net (Owes gives) = AllByRecursion (λ e. e < length net.edges) gives
FitsItem net _ = Unit {0}

abbrev pub FitsNote : NetRows → Note → Type 0
FitsNote net (Duty x) = FitsItem net x
FitsNote net _ = Unit {0}

abbrev pub AllFitNotes : NetRows → List Note → Type 0
AllFitNotes net [] = Unit {0}
AllFitNotes net (x ∷ xs) = FitsNote net x × AllFitNotes net xs

-- facts of the journal and the net that stay
abbrev pub Stands : NetRows → List Entry → Note → Type 0
Stands net journal (Duty (Told n x)) = slice_get journal n ≡ Some x
Stands net journal (Duty (Fresh t cause)) = MayBeReleased net t cause
Stands net journal (Duty (Collecting t cause taken left)) = MayBeReleased net t cause × (taken ++ left ≡ edges_of net t cause)
Stands net journal (Duty (Owes gives)) = AllByRecursion (λ e. e < length net.edges) gives
Stands net journal (Has Halted) = 1 ≤ faults journal
Stands net journal (Unfit s n t) = (start_at journal n ≡ Some t) × IsOverRelease net journal s n t
Stands net journal _ = Unit {0}

abbrev pub AllStand : NetRows → List Entry → List Note → Type 0
AllStand net journal [] = Unit {0}
AllStand net journal (x ∷ xs) = Stands net journal x × AllStand net journal xs

-- One seat exchanged these notes for those.
abbrev pub Moves : (Coord → ℕ) → List Note → (Coord → ℕ) → List Note → Type 0
Moves T old T' new = (c : Coord) → T' c + weigh c old ≡ T c + weigh c new

abbrev pub is_drop : Entry → Bool
is_drop (Drop task cause why) = true
is_drop _ = false

-- how many Starts are of tasks that pass
abbrev pub starts_of : (ℕ → Bool) → List Entry → ℕ
starts_of test journal = count_by (λ entry. option_map_or test (started entry) false) journal

abbrev pub only_takes : NetRows → ℕ → ℕ → Bool
only_takes net s t = takes net s t && not (puts net s t)

abbrev pub only_puts : NetRows → ℕ → ℕ → Bool
only_puts net s t = puts net s t && not (takes net s t)

abbrev pub takes_and_puts : NetRows → ℕ → ℕ → Bool
takes_and_puts net s t = takes net s t && puts net s t

-- The account of the journal.
pub record JournalPart (net : NetRows) (limit : ℕ) (n : ℕ) (journal : List Entry) (T : Coord → ℕ) : Type 0 where
  pub clock : n ≡ length journal
  pub legal : ShapeLegal net limit journal
  pub places : (m : ℕ) → T (duty (place m)) ≡ one_if (nat_lt m n)
  pub opens : (m t : ℕ) → T (duty (runs m t)) ≡ one_if (is_run journal m t)
  pub size : length journal + T (duty running) ≡ 2 * starts journal + count_by is_drop journal
  pub unclosed : (m : ℕ) → length journal ≤ m → count_by (closes m) journal ≡ 0

-- The account of admissions: a is the word of starts.
pub record AdmissionPart (limit a : ℕ) (journal : List Entry) (T : Coord → ℕ) : Type 0 where
  pub drawn : a ≡ starts journal + T (duty tickets) + T (mark Over) + count_by is_limited journal
  pub room : starts journal + T (duty tickets) ≤ limit
  pub full : T (mark Over) + count_by is_limited journal ≢ 0 → limit ≤ starts journal + T (duty tickets)

-- The account of live turns.
abbrev pub LivePart : ℕ → (Coord → ℕ) → Type 0
LivePart live T = live ≡ T (mark Live)

-- an entry that ends a turn
abbrev pub is_last : Entry → Bool
is_last (Start task cause ins) = false
is_last _ = true

-- Each turn is live or still to be counted, and has one release, start or end.
pub record TurnPart (journal : List Entry) (T : Coord → ℕ) : Type 0 where
  pub turns : T (mark Live) + T (mark New) ≡ T turning
  pub ended : T owing ≤ count_by is_last journal

-- The account of units, of one semaphore.
pub record UnitPart (net : NetRows) (word : ℕ) (s : ℕ) (journal : List Entry) (T : Coord → ℕ) : Type 0 where
  pub tells : word + back net s journal ≡ taken net s journal + T (sem Held s) + T (sem Owed s) + T (sem Undo s)
  pub within : taken net s journal + T (sem Held s) + T (sem Owed s) ≤ back net s journal + max_of net s

-- and of credits and claims
pub record CreditPart (net : NetRows) (word : ℕ) (s : ℕ) (journal : List Entry) (T : Coord → ℕ) : Type 0 where
  pub tells : word + back net s journal + T (sem Granted s) + T (sem Refusing s) + T (sem Both s) + T (sem Credit s) ≡ first_credit + taken net s journal
  pub backed : back net s journal + T (sem Granted s) + T (sem Both s) + T (sem Credit s) ≤ taken net s journal
  pub claims : T (sem Both s) + T (sem Claim s) + T (sem Granted s) + T (sem Refusing s) + T (sem Denied s) + back net s journal ≡ starts_of (puts net s) journal
  pub takers : closed_takers net s journal + T (sem Credit s) + T (sem Credited s) ≡ starts_of (only_takes net s) journal

-- The halt mark is set only after a Fault, and where it isn't, each Fault's turn has still to set it.
abbrev pub HaltPart : ℕ → List Entry → (Coord → ℕ) → Type 0
HaltPart zero journal T = faults journal ≡ T (mark ToMark)
HaltPart (suc n) journal T = 1 ≤ faults journal

-- The journal has a Drop for want of a unit only where a rest knows it.
abbrev pub StuckPart : List Entry → (Coord → ℕ) → Type 0
StuckPart journal T = count_by is_stuck journal ≢ 0 → 1 ≤ T (mark Sticking)

-- what the words say
pub record Readings : Type 0 where
  pub clock : ℕ
  pub live : ℕ
  pub admitted : ℕ
  pub halt : ℕ
  pub unit : ℕ → ℕ
  pub credit : ℕ → ℕ
  pub edge : ℕ → ℕ
  pub join : ℕ → ℕ

pub record Balanced (net : NetRows) (limit : ℕ) (w : Readings) (counted : ℕ → ℕ) (journal : List Entry) (T : Coord → ℕ) : Type 0 where
  pub by_journal : JournalPart net limit w.clock journal T
  pub by_edges : EdgePart net w.edge journal (λ c. T (duty c))
  pub by_duties : DutyPart net w.edge w.join counted journal (λ c. T (duty c))
  pub by_admissions : AdmissionPart limit w.admitted journal T
  pub by_live : LivePart w.live T
  pub by_turns : TurnPart journal T
  pub by_units : (s : ℕ) → s < length net.sems → UnitPart net (w.unit s) s journal T
  pub by_credits : (s : ℕ) → s < length net.sems → CreditPart net (w.credit s) s journal T
  pub by_halt : HaltPart w.halt journal T
  pub by_stuck : StuckPart journal T

pub record FitsPlan (net : NetRows) (limit : ℕ) : Type 0 where
  pub rows : IsNet net
  pub limited : limit ≤ max_limit
  pub maxima : (s : ℕ) → max_of net s ≤ 4294967295

-- the words: clock, live turns, starts, halt, then of each semaphore its units and its credits, of each edge its slot's
-- mark and its tokens, and of each task its join word
abbrev pub marks_from : NetRows → ℕ
marks_from net = 40 + length net.sems + length net.sems

abbrev pub tokens_from : NetRows → ℕ
tokens_from net = 40 + length net.sems + length net.sems + length net.edges

abbrev pub slot_mark : NetRows → List ℕ → ℕ → ℕ
slot_mark net words e = slice_index words (marks_from net + e)

abbrev pub reading : NetRows → List ℕ → Readings
reading net words = record {
  clock = slice_index words 8;
  live = slice_index words 16;
  admitted = slice_index words 24;
  halt = slice_index words 32;
  unit = λ s. if nat_lt s (length net.sems) then slice_index words (40 + s) else 0;
  credit = λ s. if nat_lt s (length net.sems) then slice_index words (40 + length net.sems + s) else 0;
  edge = λ e. if nat_lt e (length net.edges) then slice_index words (tokens_from net + e) else 0;
  join = λ t. slice_index words (tokens_from net + length net.edges + t);
}

-- What one seat has, of all: only a live turn has something to do; and a rest that is alone has all live turns.
pub record ViewPart (net : NetRows) (journal : List Entry) (T : Coord → ℕ) (id : ℕ) (v : List Note) : Type 0 where
  pub stand : AllStand net journal v
  pub covered : weigh (mark Live) v ≡ 0 → weigh busy v ≡ 0
  pub alone : weigh resting v ≢ 0 → T (mark Live) ≡ weigh (mark Live) v
  -- the keeper's seat is the first
  pub told : id ≢ 0 → weigh (mark Live) v ≡ 0 → weigh telling v ≡ 0
  pub quiet : weigh (mark Quiet) v ≢ 0 → faults journal ≡ 0
  pub full : (s : ℕ) → weigh (sem Full s) v ≢ 0 → back net s journal + max_of net s ≤ taken net s journal

-- the rule, where what lies in a slot is found as these parts
pub record KeepsAccounts {S : Type 0} (parts : S → List Part) (net : NetRows) (limit : ℕ) (s : State S (List Note)) : Type 0 where
  pub fits : FitsPlan net limit
  pub size : length s.words ≡ tokens_from net + length net.edges + length net.tasks
  pub journal : List Entry
  pub counted : ℕ → ℕ
  pub balanced : Balanced net limit (reading net s.words) counted journal (λ c. total c s.views)
  -- far less than a word holds
  pub few : total (mark Live) s.views ≤ 1152921504606846976
  pub few_drops : count_by is_drop journal ≤ 1152921504606846976
  pub views : (id : ℕ) (v : List Note) → get_elem? s.views id ≡ some v → ViewPart net journal (λ c. total c s.views) id v
  -- a slot is home where its mark is clear, and else one seat holds it
  pub homes : Homes (length net.edges) (slot_mark net s.words) s.homes (holders (λ c. slot_total c s.views))
  -- what lies in the slots, and what the seats have of it
  pub slots : SlotPart net journal ((reading net s.words).edge) (λ c. slot_total c s.views) (label_of parts s.homes)

-- each first release has a live turn
abbrev pub first_notes : List TurnDuty → List Note
first_notes [] = []
first_notes (x ∷ xs) = Duty x ∷ Has Live ∷ first_notes xs

abbrev pub opening_notes : NetRows → ℕ → List Note
opening_notes net limit = first_notes (first_duties net 0 (length net.tasks))

-- one word is another
abbrev pub with_clock : Readings → ℕ → Readings
with_clock w n = record { clock = n; live = w.live; admitted = w.admitted; halt = w.halt; unit = w.unit; credit = w.credit; edge = w.edge; join = w.join }

abbrev pub with_live : Readings → ℕ → Readings
with_live w n = record { clock = w.clock; live = n; admitted = w.admitted; halt = w.halt; unit = w.unit; credit = w.credit; edge = w.edge; join = w.join }

abbrev pub with_admitted : Readings → ℕ → Readings
with_admitted w n = record { clock = w.clock; live = w.live; admitted = n; halt = w.halt; unit = w.unit; credit = w.credit; edge = w.edge; join = w.join }

abbrev pub with_halt : Readings → ℕ → Readings
with_halt w n = record { clock = w.clock; live = w.live; admitted = w.admitted; halt = n; unit = w.unit; credit = w.credit; edge = w.edge; join = w.join }

abbrev pub with_unit : Readings → (ℕ → ℕ) → Readings
with_unit w f = record { clock = w.clock; live = w.live; admitted = w.admitted; halt = w.halt; unit = f; credit = w.credit; edge = w.edge; join = w.join }

abbrev pub with_credit : Readings → (ℕ → ℕ) → Readings
with_credit w f = record { clock = w.clock; live = w.live; admitted = w.admitted; halt = w.halt; unit = w.unit; credit = f; edge = w.edge; join = w.join }

abbrev pub with_tokens : Readings → (ℕ → ℕ) → (ℕ → ℕ) → Readings
with_tokens w f g = record { clock = w.clock; live = w.live; admitted = w.admitted; halt = w.halt; unit = w.unit; credit = w.credit; edge = f; join = g }

-- What happened at a desk, and which histories are right.
use Rattle.std.specs.Prelude.{◌≡◌, ℕ, ◌<◌, ◌≤◌, ◌==◌, List, [], ◌∷◌, length, filter, Some, slice_get, IsSomeAnd, if◌then◌else◌}
use Rattle.journal_rules.specs.Entries.{EachAfter}
use Rattle.desk_book.specs.declared.entry.Ask.{Ask}
use Rattle.desk_book.specs.declared.entry.DeskEntry.{DeskEntry}
use Rattle.desk_book.specs.declared.entry.DeskEntry.TheVariants.{Asked, Took, Ended}
use Rattle.desk_book.specs.declared.turn.Turn.{Turn}
use Rattle.desk_book.specs.declared.turn.Turn.TheVariants.{Waiting, Open, Over}

-- how many asks a desk takes
abbrev pub ask_limit : ℕ
ask_limit = 10000

-- how many rounds an ask may ask for
abbrev pub times_limit : ℕ
times_limit = 1000

-- the asks, in their order
abbrev pub asks_of : List DeskEntry → List Ask
asks_of [] = []
asks_of (Asked ask ∷ rest) = ask ∷ asks_of rest
asks_of (Took n ∷ rest) = asks_of rest
asks_of (Ended n whole ∷ rest) = asks_of rest

-- how far the ask with a number is after an entry
abbrev pub turn_after : ℕ → Turn → DeskEntry → Turn
turn_after n turn (Asked ask) = turn
turn_after n turn (Took m) = if m == n then Open else turn
turn_after n turn (Ended m whole) = if m == n then Over whole else turn

abbrev pub turn_from : ℕ → Turn → List DeskEntry → Turn
turn_from n turn [] = turn
turn_from n turn (entry ∷ rest) = turn_from n (turn_after n turn entry) rest

-- how far the ask with a number is
abbrev pub turn_of : List DeskEntry → ℕ → Turn
turn_of history n = turn_from n Waiting history

abbrev pub IsOver : Turn → Type 0
IsOver Waiting = ⊥
IsOver Open = ⊥
IsOver (Over whole) = Unit {0}

-- each ask of a graph with a number below this one has ended, by asks and by how far each is
abbrev pub EarlierOver : List Ask → (ℕ → Turn) → ℕ → ℕ → Type 0
EarlierOver asks turn graph n = (m : ℕ) (older : Ask) → m < n → slice_get asks m ≡ Some older → older.graph ≡ graph → IsOver (turn m)

-- an ask may be taken: nobody took it, and each earlier ask of its graph has ended
abbrev pub MayTakeAt : List Ask → (ℕ → Turn) → ℕ → Type 0
MayTakeAt asks turn n = (turn n ≡ Waiting) × IsSomeAnd (slice_get asks n) (λ (ask : Ask). EarlierOver asks turn ask.graph n)

abbrev pub MayTake : List DeskEntry → ℕ → Type 0
MayTake history n = MayTakeAt (asks_of history) (turn_of history) n

-- An ask may follow a history: it has the next number, its caller and its graph are there, and it asks for few enough
-- rounds.
pub record AskRule (graphs callers : ℕ) (before : List DeskEntry) (ask : Ask) : Type 0 where
  pub number : ask.number ≡ length (asks_of before)
  pub few : ask.number < ask_limit
  pub caller : ask.caller < callers
  pub graph : ask.graph < graphs
  pub times : ask.times ≤ times_limit

-- An ask is taken when its turn has come, and ends after it was taken.
abbrev pub DeskRule : ℕ → ℕ → List DeskEntry → DeskEntry → Type 0
DeskRule graphs callers before (Asked ask) = AskRule graphs callers before ask
DeskRule graphs callers before (Took n) = MayTake before n
DeskRule graphs callers before (Ended n whole) = turn_of before n ≡ Open

-- The history is one of a desk with so many graphs and callers.
abbrev pub IsDeskHistory : ℕ → ℕ → List DeskEntry → Type 0
IsDeskHistory graphs callers history = EachAfter (DeskRule graphs callers) history

-- the asks of a caller
abbrev pub asks_by : ℕ → List DeskEntry → List Ask
asks_by caller history = filter (λ (ask : Ask). ask.caller == caller) (asks_of history)

-- an ask has not been taken
abbrev pub IsWaiting : List DeskEntry → ℕ → Type 0
IsWaiting history n = (n < length (asks_of history)) × (turn_of history n ≡ Waiting)

abbrev pub NoneWaits : List DeskEntry → Type 0
NoneWaits history = (n : ℕ) → IsWaiting history n → ⊥

-- an ask has not ended
abbrev pub IsUnended : List DeskEntry → ℕ → Type 0
IsUnended history n = (n < length (asks_of history)) × (IsOver (turn_of history n) → ⊥)

-- the first ask that has not ended: each before it has
abbrev pub IsFirstUnended : List DeskEntry → ℕ → Type 0
IsFirstUnended history n = IsUnended history n × ((m : ℕ) → m < n → IsOver (turn_of history m))

-- no ask may be taken
abbrev pub NoneMayBeTaken : List DeskEntry → Type 0
NoneMayBeTaken history = (n : ℕ) → MayTake history n → ⊥

-- the first ask that may be taken: those before it were taken, or are passed over
abbrev pub IsFirstToTake : List DeskEntry → ℕ → Type 0
IsFirstToTake history n = MayTake history n × ((m : ℕ) → m < n → MayTake history m → ⊥)

-- the oldest ask that has not been taken
abbrev pub IsOldestWaiting : List DeskEntry → ℕ → Type 0
IsOldestWaiting history n = IsWaiting history n × ((m : ℕ) → m < n → turn_of history m ≡ Waiting → ⊥)

-- an ask of this graph was taken and has not ended
pub record IsBusy (history : List DeskEntry) (graph : ℕ) : Type 0 where
  pub open_ask : Ask
  pub number : ℕ
  pub asked : slice_get (asks_of history) number ≡ Some open_ask
  pub of_graph : open_ask.graph ≡ graph
  pub is_open : turn_of history number ≡ Open

-- each ask that has not been taken is of a graph of which another was taken and has not ended
abbrev pub EachIsPassedOver : List DeskEntry → Type 0
EachIsPassedOver history = (n : ℕ) (ask : Ask) → slice_get (asks_of history) n ≡ Some ask → turn_of history n ≡ Waiting → IsBusy history ask.graph

-- Where an ask was taken, each earlier one of its graph has ended. So two of a graph are never open at once.
abbrev pub TakesTurns : List DeskEntry → Type 0
TakesTurns history = (m n : ℕ) (older ask : Ask) → m < n → slice_get (asks_of history) m ≡ Some older → slice_get (asks_of history) n ≡ Some ask → older.graph ≡ ask.graph → (turn_of history n ≡ Waiting → ⊥) → IsOver (turn_of history m)

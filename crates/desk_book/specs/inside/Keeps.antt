-- What holds of the books of a desk whenever its lock is free.
use Rattle.std.specs.Prelude.{◌≡◌, ℕ, ◌+◌, ◌*◌, ◌<◌, ◌≤◌, List, ◌++◌, length, sum_by, Option, Some, slice_get}
use Rattle.desk_book.specs.declared.entry.Ask.{Ask}
use Rattle.desk_book.specs.declared.entry.DeskEntry.{DeskEntry}
use Rattle.desk_book.specs.declared.turn.Turn.{Turn}
use Rattle.desk_book.specs.declared.turn.Turn.TheVariants.{Waiting, Open, Over}
use Rattle.desk_book.specs.declared.outstanding.Outstanding.{Outstanding}
use Rattle.desk_book.specs.declared.outstanding.Outstanding.TheVariants.{Pass, Running}
use Rattle.desk_book.specs.Histories.{asks_of, asks_by, turn_of, IsOver, MayTakeAt, IsDeskHistory, ask_limit}
use Rattle.desk_book.specs.Books.{holder_of}
use Rattle.desk_book.specs.inside.Looks.{turn_at, IsOfGraph}

-- The asks of a graph have their turns in order, and for each graph the ask whose turn has come is noted.
pub record InTurn (asks : List Ask) (turn : ℕ → Turn) (next : List (Option ℕ)) : Type 0 where
  pub is_next : (g n : ℕ) → slice_get next g ≡ Some (Some n) → MayTakeAt asks turn n × IsOfGraph asks g n
  pub has_next : (n : ℕ) (ask : Ask) → slice_get asks n ≡ Some ask → MayTakeAt asks turn n → slice_get next ask.graph ≡ Some (Some n)
  pub in_order : (m n : ℕ) (older ask : Ask) → m < n → slice_get asks m ≡ Some older → slice_get asks n ≡ Some ask → older.graph ≡ ask.graph → (turn n ≡ Waiting → ⊥) → IsOver (turn m)

-- how many entries are still to come of an ask
abbrev pub entries_left : Turn → ℕ
entries_left Waiting = 2
entries_left Open = 1
entries_left (Over whole) = 0

-- an ask is what it says: it has its number, its graph and its caller are there
pub record IsAskAt (graphs callers n : ℕ) (ask : Ask) : Type 0 where
  pub number : ask.number ≡ n
  pub graph : ask.graph < graphs
  pub caller : ask.caller < callers

-- The history is right; the asks, how far each is, and whose turn it is are what it says; there is room for what is
-- still to come.
pub record KeepsTurns (graphs callers room : ℕ) (history : List DeskEntry) (asks : List Ask) (turns : List Turn) (next : List (Option ℕ)) (oldest : ℕ) : Type 0 where
  pub is_history : IsDeskHistory graphs callers history
  pub same_asks : asks_of history ≡ asks
  pub few : length asks ≤ ask_limit
  pub turn_count : length turns ≡ length asks
  pub same_turns : (n : ℕ) → turn_at turns n ≡ turn_of history n
  pub next_count : length next ≡ graphs
  pub in_turn : InTurn asks (turn_at turns) next
  pub each : (n : ℕ) (ask : Ask) → slice_get asks n ≡ Some ask → IsAskAt graphs callers n ask
  pub skipped : (n : ℕ) → n < oldest → turn_at turns n ≡ Waiting → ⊥
  pub oldest_in : oldest ≤ length asks
  pub entries : length history + sum_by entries_left turns ≡ 3 * length asks
  pub has_room : 3 * length asks ≤ room

-- What a pass has seen is a prefix of the history, with all asks of its caller. An ask that is running was taken.
abbrev pub ItemFits : List DeskEntry → Outstanding → Type 0
ItemFits history (Pass caller seen) =
    ((more : List DeskEntry) × (history ≡ seen.value.items ++ more))
    × (asks_by caller history ≡ asks_by caller seen.value.items)
ItemFits history (Running ask) = (slice_get (asks_of history) ask.number ≡ Some ask) × (turn_of history ask.number ≡ Open)

-- What is outstanding fits, and each caller and each ask is outstanding once at most.
pub record KeepsTickets (history : List DeskEntry) (items : List (Option Outstanding)) : Type 0 where
  pub fits : (n : ℕ) (item : Outstanding) → slice_get items n ≡ Some (Some item) → ItemFits history item
  pub once : (n m : ℕ) (x y : Outstanding) → slice_get items n ≡ Some (Some x) → slice_get items m ≡ Some (Some y) → holder_of x ≡ holder_of y → n ≡ m

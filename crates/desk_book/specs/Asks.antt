-- What asking a desk comes to, by what a caller has seen of it then.
use Rattle.std.specs.Prelude.{◌≡◌, ℕ, ◌+◌, ◌<◌, ◌≤◌, List, [], ◌∷◌, ◌++◌, length}
use Rattle.desk_book.specs.declared.entry.Ask.{Ask}
use Rattle.desk_book.specs.declared.entry.DeskEntry.{DeskEntry}
use Rattle.desk_book.specs.declared.desk_error.DeskError.{DeskError}
use Rattle.desk_book.specs.declared.desk_error.DeskError.TheVariants.{NoSuchGraph, TooOften, Full, NoMemory}
use Rattle.desk_book.specs.Histories.{asks_of, asks_by, ask_limit, times_limit}
use Rattle.desk_book.specs.Passes.{PassState, seen, LooksAgain}

abbrev pub new_ask : ℕ → ℕ → ℕ → ℕ → Ask
new_ask number caller graph n = record { number = number; caller = caller; graph = graph; times = n }

-- The ask with this number is the last that was asked, and one more of its caller.
pub record HasAsked (caller graph n : ℕ) (old new : List DeskEntry) (number : ℕ) : Type 0 where
  pub last : length (asks_of new) ≡ number + 1
  pub kept_it : asks_by caller new ≡ asks_by caller old ++ new_ask number caller graph n ∷ []

-- Why the books of a desk, with so many asks, refuse one: they are full; out of memory is returned only where they are
-- not.
abbrev pub RefusesAsk : ℕ → DeskError → Type 0
RefusesAsk count (NoSuchGraph g) = ⊥
RefusesAsk count (TooOften t) = ⊥
RefusesAsk count (Full seen) = (seen ≡ count) × (count ≡ ask_limit)
RefusesAsk count NoMemory = count < ask_limit

-- Why a desk with so many graphs refuses an ask, in the order in which the reasons are looked at. For the first two
-- nobody looks at the desk; the others tell what the pass has seen in this call.
abbrev pub IsRefused : ℕ → ℕ → ℕ → PassState → PassState → DeskError → Type 0
IsRefused graphs graph n old new (NoSuchGraph g) = (g ≡ graph) × (graphs ≤ graph) × (new ≡ old)
IsRefused graphs graph n old new (TooOften t) = (t ≡ n) × (graph < graphs) × (times_limit < n) × (new ≡ old)
IsRefused graphs graph n old new (Full count) = (graph < graphs) × (n ≤ times_limit) × LooksAgain old new × RefusesAsk (length (asks_of (seen new))) (Full count)
IsRefused graphs graph n old new NoMemory = (graph < graphs) × (n ≤ times_limit) × LooksAgain old new × RefusesAsk (length (asks_of (seen new))) NoMemory

-- An ask was taken up: the pass has looked, and keeps it.
pub record IsAsked (graphs graph n : ℕ) (old new : PassState) (number : ℕ) : Type 0 where
  pub graph_there : graph < graphs
  pub few_times : n ≤ times_limit
  pub looks : LooksAgain old new
  pub asked : HasAsked old.caller graph n (seen old) (seen new) number

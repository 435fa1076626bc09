-- What is looked up in the books of a desk.
use Rattle.std.specs.Prelude.{◌≡◌, ℕ, ◌+◌, ◌<◌, ◌≤◌, nat_le, Bool, true, false, List, length, Option, Some, None, slice_get, IfSome, if◌then◌else◌}
use Rattle.desk_book.specs.declared.entry.Ask.{Ask}
use Rattle.desk_book.specs.declared.turn.Turn.{Turn}
use Rattle.desk_book.specs.declared.turn.Turn.TheVariants.{Waiting}
use Rattle.desk_book.specs.Histories.{IsOver}

-- how far an ask is; one past the last waits
abbrev pub turn_in : Option Turn → Turn
turn_in None = Waiting
turn_in (Some turn) = turn

abbrev pub turn_at : List Turn → ℕ → Turn
turn_at turns n = turn_in (slice_get turns n)

-- an ask of this graph
abbrev pub IsOfGraph : List Ask → ℕ → ℕ → Type 0
IsOfGraph asks graph n = (ask : Ask) × (slice_get asks n ≡ Some ask) × (ask.graph ≡ graph)

-- no ask with a number in a range is of this graph
abbrev pub NoneBetween : List Ask → ℕ → ℕ → ℕ → Type 0
NoneBetween asks graph low high = (n : ℕ) → low ≤ n → n < high → IsOfGraph asks graph n → ⊥

-- the last ask of a graph
abbrev pub IsLastOf : List Ask → ℕ → Option ℕ → Type 0
IsLastOf asks graph None = NoneBetween asks graph 0 (length asks)
IsLastOf asks graph (Some n) = IsOfGraph asks graph n × NoneBetween asks graph (n + 1) (length asks)

-- the first ask of a graph from a number on
abbrev pub IsFirstFrom : List Ask → ℕ → ℕ → Option ℕ → Type 0
IsFirstFrom asks graph low None = NoneBetween asks graph low (length asks)
IsFirstFrom asks graph low (Some n) = (low ≤ n) × IsOfGraph asks graph n × NoneBetween asks graph low n

-- the least number that is there
abbrev pub IsLeast : List (Option ℕ) → Option ℕ → Type 0
IsLeast numbers None = (g n : ℕ) → slice_get numbers g ≡ Some (Some n) → ⊥
IsLeast numbers (Some k) = ((g : ℕ) × (slice_get numbers g ≡ Some (Some k))) × ((g n : ℕ) → slice_get numbers g ≡ Some (Some n) → k ≤ n)

-- the lesser of two numbers, where they are there
abbrev pub lesser : Option ℕ → Option ℕ → Option ℕ
lesser None right = right
lesser (Some n) None = Some n
lesser (Some n) (Some m) = Some (if nat_le n m then n else m)

-- whether each ask of a graph has ended, where they end in order: whether the last has
abbrev pub IsIdle : List Ask → List Turn → ℕ → Bool → Type 0
IsIdle asks turns graph true = (last : Option ℕ) × IsLastOf asks graph last × IfSome last (λ n. IsOver (turn_at turns n))
IsIdle asks turns graph false = (n : ℕ) × IsOfGraph asks graph n × (IsOver (turn_at turns n) → ⊥)

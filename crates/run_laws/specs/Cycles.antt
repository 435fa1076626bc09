-- Rings of tasks, and the order in which they start.
use Rattle.std.specs.Prelude.{◌≡◌, ℕ, zero, suc, ◌+◌, ◌<◌, ◌≤◌, ◌==◌, Bool, true, false, List, length, count_by, if◌then◌else◌}
use Rattle.std.specs.List.{list_any, range_with_len}
use Rattle.task_graph.specs.NetRows.{NetRows}
use Rattle.journal_rules.specs.declared.entry.Entry.{Entry}
use Rattle.journal_rules.specs.declared.entry.Entry.TheVariants.{Start, End, Fault, Drop}
use Rattle.journal_rules.specs.Counts.{first_tokens}
use Rattle.run_laws.specs.OneThreadValue.{source_of, target_of}
use Rattle.pipe_lines.specs.PipeNet.{next}

-- an edge from a task of the ring to the next
pub record CycleEdge (net : NetRows) (n : ℕ) (cell : ℕ → ℕ) (l : ℕ) (edge : ℕ) : Type 0 where
  pub below : edge < length net.edges
  pub from : source_of net edge ≡ cell l
  pub to : target_of net edge ≡ cell (next n l)
  pub first : first_tokens net edge ≡ (if l + 1 == n then 1 else 0)

-- where a task stands in the ring
pub record LiesAt (n : ℕ) (cell : ℕ → ℕ) (t : ℕ) : Type 0 where
  pub place : ℕ
  pub below : place < n
  pub is : t ≡ cell place

-- n different tasks, each with an edge to the next, round; the edge to the first begins with a token
pub record IsCycle (net : NetRows) (n : ℕ) (cell : ℕ → ℕ) (among : ℕ → Bool) : Type 0 where
  pub some : 1 ≤ n
  pub is_in : (l : ℕ) → l < n → among (cell l) ≡ true
  pub lies : (t : ℕ) → among t ≡ true → LiesAt n cell t
  pub distinct : (l m : ℕ) → l < n → m < n → cell l ≡ cell m → l ≡ m
  pub edge : ℕ → ℕ
  pub edges : (l : ℕ) → l < n → CycleEdge net n cell l (edge l)

-- whether a task is one of n
abbrev pub is_one_of : ℕ → (ℕ → ℕ) → ℕ → Bool
is_one_of n cell t = list_any (λ l. cell l == t) (range_with_len 0 n)

-- whether an entry is a Start or a Drop of one of these tasks
abbrev pub uses_some : (ℕ → Bool) → Entry → Bool
uses_some among (Start task cause ins) = among task
uses_some among (End start gives inner) = false
uses_some among (Fault start why) = false
uses_some among (Drop task cause why) = among task

-- the number whose turn it is after k turns
abbrev pub turn : ℕ → ℕ → ℕ
turn n zero = 0
turn n (suc k) = next n (turn n k)

-- The Starts and Drops of the ring's tasks go round: each is of the task whose turn it is after those before it.
abbrev pub GoesRound : ℕ → (ℕ → ℕ) → (ℕ → Bool) → List Entry → Entry → Type 0
GoesRound n cell among journal (Start task cause ins) = among task ≡ true → task ≡ cell (turn n (count_by (uses_some among) journal))
GoesRound n cell among journal (End start gives inner) = Unit {0}
GoesRound n cell among journal (Fault start why) = Unit {0}
GoesRound n cell among journal (Drop task cause why) = among task ≡ true → task ≡ cell (turn n (count_by (uses_some among) journal))

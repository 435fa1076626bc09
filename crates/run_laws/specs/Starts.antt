-- Which tasks start, worked out without a journal, and which of their rounds are faults.
use Rattle.std.specs.Prelude.{◌≡◌, ℕ, ◌<◌, Bool, true, false, List, [], ◌∷◌, map, length, sum_by, None, Some, slice_get, if◌then◌else◌}
use Rattle.std.specs.List.{range_with_len}
use Rattle.task_graph.specs.NetRows.{NetRows}
use Rattle.task_graph.specs.Net.{strong_in}
use Rattle.join_words.specs.Ins.{InputValue}
use Rattle.run_laws.specs.OneThreadValue.{OneAnswer, tokens, source_of, rounds_of, one_thread_value}

-- the rounds of a task's tokens, as far as n steps decide
abbrev pub rounds_in : {V : Type 0} → NetRows → OneAnswer V → ℕ → ℕ → List (List (InputValue V))
rounds_in net one n t = rounds_of (map (λ e. tokens net e (one_thread_value net one n (source_of net e))) (strong_in net t))

-- whether a list has an item
abbrev pub has_item : {X : Type 0} → List X → Bool
has_item [] = false
has_item (x ∷ xs) = true

-- whether a task starts, as far as n steps decide
abbrev pub starts_once : {V : Type 0} → NetRows → OneAnswer V → ℕ → ℕ → Bool
starts_once net one n t = has_item (rounds_in net one n t)

-- how many tasks start
abbrev pub tasks_started : {V : Type 0} → NetRows → OneAnswer V → ℕ → ℕ
tasks_started net one n = sum_by (λ t. (if starts_once net one n t then 1 else 0)) (range_with_len 0 (length net.tasks))

-- a round of a task whose answer is a fault
pub record HasFault {V : Type 0} (net : NetRows) (one : OneAnswer V) (n : ℕ) : Type 0 where
  pub task : ℕ
  pub in_net : task < length net.tasks
  pub place : ℕ
  pub round : List (InputValue V)
  pub at_place : slice_get (rounds_in net one n task) place ≡ Some round
  pub faults : one task round ≡ None

-- The values of a net's tasks, worked out without a journal and without an order of tasks.
use Rattle.std.specs.Prelude.{ℕ, suc, zero, ◌==◌, List, [], ◌∷◌, ◌++◌, map, filter, Option, Some, None, slice_get, if◌then◌else◌}
use Rattle.std.specs.Option.{option_map_or}
use Rattle.std.specs.List.{list_any}
use Rattle.task_graph.specs.NetRows.{NetRows}
use Rattle.task_graph.specs.Net.{strong_in}
use Rattle.task_graph.specs.declared.net.EdgeRow.{EdgeRow}
use Rattle.join_words.specs.Ins.{InputValue, value, first}

-- an end of a task: its value, and the edges that it gave
pub record TaskEnd (V : Type 0) : Type 0 where
  pub value : V
  pub gives : List ℕ

-- What the one answer of each task is on what it finds: an end, or nothing where it is a fault.
abbrev pub OneAnswer : Type 0 → Type 0
OneAnswer V = ℕ → List (InputValue V) → Option (TaskEnd V)

-- the task that an edge leaves
abbrev pub source_of : NetRows → ℕ → ℕ
source_of net e = option_map_or (λ (row : EdgeRow). row.from) (slice_get net.edges e) 0

-- the task that it leads to
abbrev pub target_of : NetRows → ℕ → ℕ
target_of net e = option_map_or (λ (row : EdgeRow). row.to) (slice_get net.edges e) 0

-- the token with which an edge begins, if it does
abbrev pub begun : {V : Type 0} → NetRows → ℕ → List (InputValue V)
begun net e = option_map_or (λ (row : EdgeRow). if row.start then first ∷ [] else []) (slice_get net.edges e) []

-- The tokens of an edge, in order: that with which it begins, and the value of each end of its source that
-- gave it.
abbrev pub tokens : {V : Type 0} → NetRows → ℕ → List (TaskEnd V) → List (InputValue V)
tokens net e ends = begun net e ++ map (λ end. value end.value) (filter (λ end. list_any (λ g. g == e) end.gives) ends)

-- an item before each list of the other, as far as both go
abbrev pub put_before : {X : Type 0} → List X → List (List X) → List (List X)
put_before [] rounds = []
put_before (x ∷ xs) [] = []
put_before (x ∷ xs) (round ∷ rounds) = (x ∷ round) ∷ put_before xs rounds

-- Round k has item k of each list; there are as many as the shortest list has items. Of no lists there is one
-- round, without items.
abbrev pub rounds_of : {X : Type 0} → List (List X) → List (List X)
rounds_of [] = [] ∷ []
rounds_of (xs ∷ []) = map (λ x. x ∷ []) xs
rounds_of (xs ∷ ys ∷ rest) = put_before xs (rounds_of (ys ∷ rest))

-- what a task answers in each round, up to its first fault
abbrev pub answers : {X Y : Type 0} → (X → Option Y) → List X → List Y
answers one [] = []
answers one (x ∷ xs) = elim (one x) [ None ↦ [] | Some y ↦ y ∷ answers one xs ]

-- The ends of a task, as far as n steps along the edges decide: its answers on the rounds of tokens of its
-- in-edges. A source task, which has none, has one round, without parts.
abbrev pub one_thread_value : {V : Type 0} → NetRows → OneAnswer V → ℕ → ℕ → List (TaskEnd V)
one_thread_value net one zero t = []
one_thread_value net one (suc n) t =
    answers (one t) (rounds_of (map (λ e. tokens net e (one_thread_value net one n (source_of net e))) (strong_in net t)))

-- Which tokens the cells of a pipeline start, and when.
use Rattle.std.specs.Prelude.{◌≡◌, ℕ, ◌+◌, ◌*◌, ◌<◌, ◌==◌, Bool, true, false, List, [], ◌∷◌, take, count_by, if◌then◌else◌}
use Rattle.journal_rules.specs.declared.entry.Entry.{Entry}
use Rattle.journal_rules.specs.declared.entry.Entry.TheVariants.{Start, End, Fault, Drop}
use Rattle.journal_rules.specs.Entries.{EachAfter}
use Rattle.run_frame.specs.declared.run.ValueRow.{ValueRow}
use Rattle.run_frame.specs.Runs.{found_ins}
use Rattle.pipe_lines.specs.declared.order.Passed.{Passed}
use Rattle.pipe_lines.specs.declared.order.Passed.TheVariants.{Token, Stop, Unmet}
use Rattle.pipe_lines.specs.Orders.{passed_at}
use Rattle.pipe_lines.specs.PipeNet.{cell}
use Rattle.run_laws.specs.Ends.{gather}
use Rattle.run_laws.specs.Steady.{runs_at}
use Rattle.run_laws.specs.Cycles.{is_one_of}
use Rattle.text_tasks.specs.Cells.{Pipeline, cell_task, meets}

-- whether a task is a cell of pipe p
abbrev pub in_pipe : {V : Type 0} → Pipeline V → ℕ → ℕ → Bool
in_pipe pipeline p = is_one_of pipeline.lines (λ l. cell_task pipeline l p)

-- whether an entry is a start of one of these tasks
abbrev pub starts_one_of : (ℕ → Bool) → Entry → Bool
starts_one_of among (Start task cause ins) = among task
starts_one_of among (End start gives inner) = false
starts_one_of among (Fault start why) = false
starts_one_of among (Drop task cause why) = false

-- A start of one of these tasks, cells of pipe p, meets what the order has at its turn: the place that goes with the
-- number of their starts before it.
abbrev pub MeetsAtTurn : {V : Type 0} → Pipeline V → List (ValueRow V) → ℕ → (ℕ → Bool) → (ℕ → ℕ) → List Entry → Entry → Type 0
MeetsAtTurn pipeline values p among place journal (Start task cause ins) =
    among task ≡ true → meets pipeline p task (found_ins values ins) ≡ passed_at pipeline.order (place (count_by (starts_one_of among) journal))
MeetsAtTurn pipeline values p among place journal (End start gives inner) = Unit {0}
MeetsAtTurn pipeline values p among place journal (Fault start why) = Unit {0}
MeetsAtTurn pipeline values p among place journal (Drop task cause why) = Unit {0}

-- the token that passes, if one does
abbrev pub token_passed : Passed → List ℕ
token_passed (Token k) = k ∷ []
token_passed Stop = []
token_passed (Unmet k) = []

-- the token that an entry starts in pipe p, if it does
abbrev pub token_started : {V : Type 0} → Pipeline V → List (ValueRow V) → ℕ → ℕ → Entry → List ℕ
token_started pipeline values p n (Start task cause ins) = if in_pipe pipeline p task then token_passed (meets pipeline p task (found_ins values ins)) else []
token_started pipeline values p n (End start gives inner) = []
token_started pipeline values p n (Fault start why) = []
token_started pipeline values p n (Drop task cause why) = []

-- the tokens that the cells of pipe p start, in the order of the journal
abbrev pub tokens_started : {V : Type 0} → Pipeline V → List (ValueRow V) → ℕ → List Entry → List ℕ
tokens_started pipeline values p journal = gather (token_started pipeline values p) 0 journal

-- The n-th start of pipe p meets what the order has at place n. So its tokens are the first ones of the order, as many
-- as there are starts, or all.
pub record IsInOrder {V : Type 0} (pipeline : Pipeline V) (values : List (ValueRow V)) (p : ℕ) (journal : List Entry) : Type 0 where
  pub each : EachAfter (MeetsAtTurn pipeline values p (in_pipe pipeline p) (λ n. n)) journal
  pub tokens : tokens_started pipeline values p journal ≡ take (count_by (starts_one_of (in_pipe pipeline p)) journal) pipeline.order.passed

-- The k-th start of line l at pipe p meets what the order has at place k * lines + l: line after line has the next
-- place.
abbrev pub TakesTurns : {V : Type 0} → Pipeline V → List (ValueRow V) → ℕ → ℕ → List Entry → Type 0
TakesTurns pipeline values l p journal = EachAfter (MeetsAtTurn pipeline values p (λ t. t == cell_task pipeline l p) (λ k. k * pipeline.lines + l)) journal

-- whether a task is a cell of line l, where there are so many pipes
abbrev pub in_line : ℕ → ℕ → ℕ → Bool
in_line pipes l = is_one_of pipes (cell pipes l)

-- At a start of a cell of line l no start of a cell of the line is open.
abbrev pub StartsAlone : ℕ → ℕ → List Entry → Entry → Type 0
StartsAlone pipes l journal (Start task cause ins) = in_line pipes l task ≡ true → (p n : ℕ) → p < pipes → runs_at (cell pipes l p) journal n ≡ false
StartsAlone pipes l journal (End start gives inner) = Unit {0}
StartsAlone pipes l journal (Fault start why) = Unit {0}
StartsAlone pipes l journal (Drop task cause why) = Unit {0}

-- What the cells of a pipeline find and meet, whatever their values.
use Rattle.std.specs.Prelude.{ℕ, suc, zero, min, ◌+◌, Bool, not, List, [], ◌∷◌, length, false, slice_index_or, if◌then◌else◌}
use Rattle.task_graph.specs.NetRows.{NetRows}
use Rattle.task_graph.specs.Net.{strong_in}
use Rattle.join_words.specs.Ins.{InputValue, value, first, nothing}
use Rattle.pipe_lines.specs.declared.order.Order.{Order}
use Rattle.pipe_lines.specs.declared.order.Passed.{Passed}
use Rattle.pipe_lines.specs.declared.order.Passed.TheVariants.{Token, Stop, Unmet}
use Rattle.pipe_lines.specs.Orders.{passed_at}
use Rattle.pipe_lines.specs.PipeNet.{along_pipes, cell, pipe_net}

-- A pipeline: how many lines it has, of each pipe whether it is serial, and the order in which its tokens pass the
-- first pipe; and of each value its token and that token's place in the order.
pub record Pipeline (V : Type 0) : Type 0 where
  pub lines : ℕ
  pub serials : List Bool
  pub order : Order
  pub token : V → ℕ
  pub place : V → ℕ

abbrev pub pipeline_net : {V : Type 0} → Pipeline V → NetRows
pipeline_net pipeline = pipe_net pipeline.lines pipeline.serials

-- the task of line l at pipe p
abbrev pub cell_task : {V : Type 0} → Pipeline V → ℕ → ℕ → ℕ
cell_task pipeline l p = cell (length pipeline.serials) l p

-- whether an edge leads along a pipe, not along a line
abbrev pub along_pipe : {V : Type 0} → Pipeline V → ℕ → Bool
along_pipe pipeline e = slice_index_or (along_pipes pipeline.lines pipeline.serials) e false

-- of a start's inputs that at the first of its edges that passes a test
abbrev pub input_where : {V : Type 0} → (ℕ → Bool) → List ℕ → List (InputValue V) → InputValue V
input_where test [] found = nothing
input_where test (e ∷ edges) [] = nothing
input_where test (e ∷ edges) (input ∷ found) = if test e then input else input_where test edges found

-- the input along the pipe of a cell, and the one along its line
abbrev pub pipe_input : {V : Type 0} → Pipeline V → ℕ → List (InputValue V) → InputValue V
pipe_input pipeline t found = input_where (along_pipe pipeline) (strong_in (pipeline_net pipeline) t) found

abbrev pub line_input : {V : Type 0} → Pipeline V → ℕ → List (InputValue V) → InputValue V
line_input pipeline t found = input_where (λ e. not (along_pipe pipeline e)) (strong_in (pipeline_net pipeline) t) found

-- the place after that of an input, up to the greatest u64; without a value the first
abbrev pub next_place : {V : Type 0} → Pipeline V → InputValue V → ℕ
next_place pipeline (value v) = min (pipeline.place v + 1) 18446744073709551615
next_place pipeline first = 0
next_place pipeline nothing = 0

-- the token of an input; without a value token 0
abbrev pub token_in : {V : Type 0} → Pipeline V → InputValue V → ℕ
token_in pipeline (value v) = pipeline.token v
token_in pipeline first = 0
token_in pipeline nothing = 0

-- What a cell of pipe p meets: in the first pipe what the order has after the place of the line before; in the others
-- the token that comes along the line.
abbrev pub meets : {V : Type 0} → Pipeline V → ℕ → ℕ → List (InputValue V) → Passed
meets pipeline zero t found = passed_at pipeline.order (next_place pipeline (pipe_input pipeline t found))
meets pipeline (suc p) t found = Token (token_in pipeline (line_input pipeline t found))

-- the edges that an end signals, of these: all for a token, else none
abbrev pub edges_for : Passed → List ℕ → List ℕ
edges_for (Token k) edges = edges
edges_for Stop edges = []
edges_for (Unmet k) edges = []

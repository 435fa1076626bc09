-- The operations of a graph file: a row for each.
use Rattle.std.specs.Prelude.{ℕ, List, [], ◌∷◌, ◌++◌, map, Bool, true, not, Option, Result, Ok, ok_or, codes}
use Rattle.std.specs.List.{find}
use Rattle.std.specs.Str.{bytes_eq}
use Rattle.serde_json.specs.Data.{Data}
use Rattle.serde_json.specs.Find.{as_bool, as_str, get}
use Rattle.pipe_lines.specs.declared.deferral.DeferRow.{DeferRow}
use Rattle.pipe_lines.specs.DeferRows.{is_deferred}
use Rattle.graph_plans.specs.declared.ops.Op.{Op}
use Rattle.graph_plans.specs.declared.ops.Op.TheVariants.{Input, Text, Match, Back, IfMore, IfHas, Route, Spread, Pipe}
use Rattle.graph_plans.specs.declared.ops.TextOp.{TextOp}
use Rattle.graph_plans.specs.declared.ops.TextOp.TheVariants.{Pass, Keep, Without, Head, Tail, Skip, Sort, Uniq, Count, Tally}
use Rattle.graph_plans.specs.declared.pipes.LineOp.{LineOp}
use Rattle.graph_plans.specs.declared.pipes.LineOp.TheVariants.{Text as LineText, Number, Stamp}
use Rattle.graph_plans.specs.declared.spots.Spot.{Spot}
use Rattle.graph_drafts.specs.declared.refusals.GraphError.{GraphError}
use Rattle.graph_drafts.specs.declared.refusals.GraphError.TheVariants.{BadField}
use Rattle.graph_drafts.specs.Contents.{defer_objects_of, line_count_of, objects_of, part_size_of, pipe_lines_of, targets_of, text_name_of, token_number_of, word_of, words_of}
use Rattle.graph_drafts.specs.Fields.{allowed, needed, only}
use Rattle.graph_drafts.specs.Steps.{◌>>=◌, otherwise, passed, walk}

-- an operation as a file has it: the text that it reads and the module that it runs have names and no numbers yet, and
-- any other is as in a plan
pub data FileOpRow : Type 0 where
  reads : List ℕ → FileOpRow
  runs : List ℕ → FileOpRow
  does : Op → FileOpRow

-- an operation's name, its own fields in their order, and the operation that an object at this place makes of them
pub record OpRow (A : Type 0) : Type 0 where
  pub name : List ℕ
  pub fields : List (List ℕ)
  pub made : Spot → Data → Result A GraphError

-- without a field of its own
abbrev pub bare : {A : Type 0} → List ℕ → A → OpRow A
bare name op = record { name = name; fields = []; made = λ spot d. Ok op }

-- with one
abbrev pub single : {A X : Type 0} → List ℕ → List ℕ → (Data → Option X) → (X → A) → OpRow A
single name field content op = record { name = name; fields = field ∷ []; made = λ spot d. needed content spot field d >>= λ x. Ok (op x) }

-- the same fields, for another operation
abbrev pub used_by : {A B : Type 0} → (A → B) → OpRow A → OpRow B
used_by f row = record { name = row.name; fields = row.fields; made = λ spot d. row.made spot d >>= λ op. Ok (f op) }

-- the operations on one text
unfoldable pub text_rows : List (OpRow TextOp)
text_rows =
    bare (codes "pass") Pass
    ∷ single (codes "keep") (codes "word") word_of Keep
    ∷ single (codes "without") (codes "word") word_of Without
    ∷ single (codes "head") (codes "n") line_count_of Head
    ∷ single (codes "tail") (codes "n") line_count_of Tail
    ∷ single (codes "skip") (codes "n") line_count_of Skip
    ∷ bare (codes "sort") Sort
    ∷ bare (codes "uniq") Uniq
    ∷ bare (codes "count") Count
    ∷ bare (codes "tally") Tally
    ∷ []

-- the row of the operation of this name
abbrev pub row_called : {A : Type 0} → List (OpRow A) → List ℕ → Option (OpRow A)
row_called rows name = find (λ row. bytes_eq row.name name) rows

-- an operation, and the names of its own fields
pub record WithFields (A : Type 0) : Type 0 where
  pub op : A
  pub fields : List (List ℕ)

-- the operation of this name, one of these, with its own fields in an object
abbrev pub op_called : {A : Type 0} → List (OpRow A) → List ℕ → Spot → Data → Result (WithFields A) GraphError
op_called rows name spot d = do
  row ← ok_or (row_called rows name) (BadField spot (codes "op"))
  op ← row.made spot d
  Ok (record { op = op; fields = row.fields })

-- the operation that an object's field `op` names
abbrev pub op_in : {A : Type 0} → List (OpRow A) → Spot → Data → Result (WithFields A) GraphError
op_in rows spot d = do
  name ← needed as_str spot (codes "op") d
  op_called rows name spot d

-- ---- the operations of tasks

-- the operation on one text that an object is; it has no other field
abbrev pub text_op_in : Spot → Data → Result TextOp GraphError
text_op_in spot d = do
  found ← op_in text_rows spot d
  done ← only (codes "op" ∷ found.fields) spot d
  Ok found.op

-- the operation on each part; whatever is wrong with it is wrong with the field that holds it
abbrev pub each_in : Spot → Data → Result TextOp GraphError
each_in spot d = do
  each ← ok_or (get (codes "each") d) (BadField spot (codes "each"))
  otherwise (text_op_in spot each) (BadField spot (codes "each"))

-- parts of so many lines, and what becomes of each
abbrev pub spread_in : Spot → Data → Result Op GraphError
spread_in spot d = do
  n ← needed part_size_of spot (codes "n") d
  each ← each_in spot d
  Ok (Spread n each)

abbrev pub spread_row : OpRow FileOpRow
spread_row = record { name = codes "spread"; fields = codes "n" ∷ codes "each" ∷ []; made = λ spot d. spread_in spot d >>= λ op. Ok (does op) }

-- ---- pipelines

-- the operations of pipes
unfoldable pub line_rows : List (OpRow LineOp)
line_rows = bare (codes "number") Number ∷ bare (codes "stamp") Stamp ∷ map (used_by LineText) text_rows

-- whether a pipe may have an operation: places are written by serial pipes alone
abbrev pub may_have : Bool → LineOp → Bool
may_have serial (LineText op) = true
may_have serial Number = true
may_have serial Stamp = serial

-- pipes: of each whether it is serial, and what it does
pub record PipeRows : Type 0 where
  pub serial : List Bool
  pub ops : List LineOp

-- an object more as a pipe
abbrev pub add_pipe : Spot → PipeRows → Data → Result PipeRows GraphError
add_pipe spot before d = do
  serial ← needed as_bool spot (codes "serial") d
  found ← op_in line_rows spot d
  fits ← passed (may_have serial found.op) (BadField spot (codes "op"))
  done ← only (codes "serial" ∷ codes "op" ∷ found.fields) spot d
  Ok (record { serial = before.serial ++ serial ∷ []; ops = before.ops ++ found.op ∷ [] })

-- the pipes in a list; whatever is wrong with one is wrong with the field that holds it
abbrev pub pipes_in : Spot → Data → Result PipeRows GraphError
pipes_in spot d = do
  items ← needed objects_of spot (codes "pipes") d
  otherwise (walk (add_pipe spot) (record { serial = []; ops = [] }) items) (BadField spot (codes "pipes"))

-- an object more that defers a token, another than those before it
abbrev pub add_defer : Spot → List DeferRow → Data → Result (List DeferRow) GraphError
add_defer spot before d = do
  token ← needed token_number_of spot (codes "token") d
  to ← needed targets_of spot (codes "to") d
  new ← passed (not (is_deferred before token)) (BadField spot (codes "token"))
  done ← only (codes "token" ∷ codes "to" ∷ []) spot d
  Ok (before ++ record { token = token; to = to } ∷ [])

-- those in a list, which may be missing
abbrev pub defers_in : Spot → Data → Result (List DeferRow) GraphError
defers_in spot d = do
  items ← allowed [] defer_objects_of spot (codes "defer") d
  otherwise (walk (add_defer spot) [] items) (BadField spot (codes "defer"))

-- lines and pipes, how many lines of text a token has, one where that is missing, and which tokens wait
abbrev pub pipe_in : Spot → Data → Result Op GraphError
pipe_in spot d = do
  lines ← needed pipe_lines_of spot (codes "lines") d
  chunk ← allowed 1 part_size_of spot (codes "n") d
  pipes ← pipes_in spot d
  defers ← defers_in spot d
  Ok (Pipe (record { spec = record { lines = lines; serial = pipes.serial }; ops = pipes.ops; chunk = chunk; defers = defers }))

abbrev pub pipe_row : OpRow FileOpRow
pipe_row = record { name = codes "pipe"; fields = codes "lines" ∷ codes "n" ∷ codes "pipes" ∷ codes "defer" ∷ []; made = λ spot d. pipe_in spot d >>= λ op. Ok (does op) }

-- all of them
unfoldable pub op_rows : List (OpRow FileOpRow)
op_rows =
    bare (codes "input") (does Input)
    ∷ single (codes "read") (codes "text") text_name_of reads
    ∷ bare (codes "match") (does Match)
    ∷ bare (codes "back") (does Back)
    ∷ single (codes "ifmore") (codes "n") line_count_of (λ n. does (IfMore n))
    ∷ single (codes "ifhas") (codes "word") word_of (λ word. does (IfHas word))
    ∷ single (codes "route") (codes "words") words_of (λ words. does (Route words))
    ∷ spread_row
    ∷ single (codes "module") (codes "module") as_str runs
    ∷ pipe_row
    ∷ map (used_by (λ op. does (Text op))) text_rows

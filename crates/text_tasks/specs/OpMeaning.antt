-- What the task of each operation does.
use Rattle.std.specs.Prelude.{ℕ, ℤ, pos, Bool, nat_le, nat_lt, if◌then◌else◌, List, [], ◌∷◌, length, map, slice_index_or}
use Rattle.task_graph.specs.Places.{places}
use Rattle.join_words.specs.Ins.{InputValue}
use Rattle.run_frame.specs.declared.job.Answer.{Answer}
use Rattle.run_frame.specs.declared.job.Answer.TheVariants.{All as Each, Indices}
use Rattle.graph_plans.specs.declared.ops.Op.{Op}
use Rattle.graph_plans.specs.declared.ops.Op.TheVariants.{Input, Read, Text, Match, Back, IfMore, IfHas, Route, Spread, Module, Pipe as PipeOp}
use Rattle.graph_plans.specs.declared.ops.TextOp.{TextOp}
use Rattle.graph_plans.specs.declared.ops.TextOp.TheVariants.{Pass, Keep, Without, Head, Tail, Skip, Sort, Uniq, Count, Tally}
use Rattle.graph_plans.specs.declared.pipes.PipePlan.{PipePlan}
use Rattle.nested_runs.specs.Spreads.{part_limit}
use Rattle.pipe_lines.specs.DeferRows.{token_limit}
use Rattle.text_ops.specs.LineParts.{line_parts, part_count}
use Rattle.text_ops.specs.Lines.{lines_of}
use Rattle.text_ops.specs.TextMeaning.{keep_meaning, without_meaning, head_meaning, tail_meaning, skip_meaning, sort_meaning, uniq_meaning, count_meaning, tally_meaning, match_meaning, has_word}
use Rattle.text_ops.specs.Values.{value_limit}
use Rattle.text_tasks.specs.declared.item.CellItem.{CellItem}
use Rattle.text_tasks.specs.declared.item.Item.{Item}
use Rattle.text_tasks.specs.declared.job.TextJob.{TextJob}
use Rattle.text_tasks.specs.declared.job.TextJob.TheVariants.{Graph, Parts, Pipe}
use Rattle.text_tasks.specs.GraphWork.{GraphWork, module_work}
use Rattle.text_tasks.specs.FoundTexts.{text_found, left_found, right_found}
use Rattle.text_tasks.specs.PipeWork.{pipe_work}

-- the text that an operation on one text makes of a text
abbrev pub text_op_value : TextOp → List ℕ → List ℕ
text_op_value Pass text = text
text_op_value (Keep word) text = keep_meaning word text
text_op_value (Without word) text = without_meaning word text
text_op_value (Head n) text = head_meaning n text
text_op_value (Tail n) text = tail_meaning n text
text_op_value (Skip n) text = skip_meaning n text
text_op_value Sort text = sort_meaning text
text_op_value Uniq text = uniq_meaning text
text_op_value Count text = count_meaning text
text_op_value Tally text = tally_meaning text

-- the first successor alone
abbrev pub first_one : Answer
first_one = Indices (pos 0 ∷ [])

-- the second successor alone
abbrev pub second_one : Answer
second_one = Indices (pos 1 ∷ [])

-- whether a text has more than n lines
abbrev pub has_more : ℕ → List ℕ → Bool
has_more n text = nat_lt n (length (lines_of text))

-- the rising indices of the words that occur in a line of the text
abbrev pub occurring : List (List ℕ) → List ℕ → List ℤ
occurring words text = map pos (places (λ word. has_word word text) words)

-- What a task does on what it finds: it hands a text on, to those of its successors that the answer names; or, as a
-- cell of a pipeline, a token with its text; or it has a job run in its place; or it comes to nothing, since that job
-- would have so many parts, or since the least token that never passes is this one.
pub data OpMeaning : Type 0 where
  hands_over : List ℕ → Answer → OpMeaning
  moves_on : CellItem → Answer → OpMeaning
  runs : TextJob → OpMeaning
  too_wide : ℕ → OpMeaning
  never_passes : ℕ → OpMeaning

-- The parts of a text are run, where they aren't too many.
abbrev pub spread_meaning : ℕ → TextOp → List ℕ → OpMeaning
spread_meaning n each text =
    if nat_le (part_count n text) part_limit then runs (Parts (record { parts = line_parts n text; op = each })) else too_wide (part_count n text)

-- A module's graph is started with a text that may be a value. One that is too long is a fault as if it were handed on.
abbrev pub module_meaning : GraphWork → ℕ → List ℕ → OpMeaning
module_meaning work m text = if nat_le (length text) value_limit then runs (Graph (module_work work m text)) else hands_over text Each

-- The parts of a text go through the pipes, where they aren't too many.
abbrev pub pipe_meaning : PipePlan → List ℕ → OpMeaning
pipe_meaning plan text =
    if nat_le (part_count plan.chunk text) token_limit then runs (Pipe (pipe_work plan text)) else too_wide (part_count plan.chunk text)

-- One row for each operation.
abbrev pub op_meaning : GraphWork → List (InputValue Item) → Op → OpMeaning
op_meaning work found Input = hands_over work.input Each
op_meaning work found (Read number) = hands_over (slice_index_or work.texts number []) Each
op_meaning work found (Text op) = hands_over (text_op_value op (text_found found)) Each
op_meaning work found Match = hands_over (match_meaning (left_found found) (right_found found)) Each
op_meaning work found Back = hands_over (text_found found) first_one
op_meaning work found (IfMore n) = hands_over (text_found found) (if has_more n (text_found found) then first_one else second_one)
op_meaning work found (IfHas word) = hands_over (text_found found) (if has_word word (text_found found) then first_one else second_one)
op_meaning work found (Route words) = hands_over (text_found found) (Indices (occurring words (text_found found)))
op_meaning work found (Spread n each) = spread_meaning n each (text_found found)
op_meaning work found (Module m) = module_meaning work m (text_found found)
op_meaning work found (PipeOp plan) = pipe_meaning plan (text_found found)

-- What the cells of a pipeline of texts do.
use Rattle.std.specs.Prelude.{ℕ, ◌%◌, ◌==◌, if◌then◌else◌, List, [], length, slice_index_or}
use Rattle.join_words.specs.Ins.{InputValue, value, first, nothing}
use Rattle.run_frame.specs.declared.job.Answer.TheVariants.{All as Each, None as NoneOf}
use Rattle.graph_plans.specs.declared.pipes.LineOp.{LineOp}
use Rattle.graph_plans.specs.declared.pipes.LineOp.TheVariants.{Text as LineText, Number, Stamp}
use Rattle.pipe_lines.specs.declared.order.Passed.{Passed}
use Rattle.pipe_lines.specs.declared.order.Passed.TheVariants.{Token, Stop, Unmet}
use Rattle.pipe_lines.specs.Orders.{passed_at}
use Rattle.text_ops.specs.TextMeaning.{numbered_meaning}
use Rattle.text_tasks.specs.declared.item.Item.{Item}
use Rattle.text_tasks.specs.Cells.{line_input, next_place, pipe_input, token_in}
use Rattle.text_tasks.specs.FoundTexts.{found_text}
use Rattle.text_tasks.specs.Items.{item_place}
use Rattle.text_tasks.specs.OpMeaning.{OpMeaning, moves_on, never_passes, text_op_value}
use Rattle.text_tasks.specs.PipeWork.{PipeWork, pipeline_of}

-- the text that a pipe's operation makes of that of a token with a place in the order
abbrev pub line_op_value : LineOp → ℕ → ℕ → List ℕ → List ℕ
line_op_value (LineText op) token place text = text_op_value op text
line_op_value Number token place text = numbered_meaning token text
line_op_value Stamp token place text = numbered_meaning place text

-- the pipe of a cell
abbrev pub pipe_of : PipeWork → ℕ → ℕ
pipe_of work task = task % length work.spec.serial

-- the place of an input; without a value place 0
abbrev pub place_in : InputValue Item → ℕ
place_in (value item) = item_place item
place_in first = 0
place_in nothing = 0

-- A cell of the first pipe, at a place of the order: the token that passes there goes on with its part of the text;
-- behind the last one nothing does; for a token that never passes the cell comes to nothing.
abbrev pub enters : PipeWork → LineOp → ℕ → Passed → OpMeaning
enters work op place (Token k) = moves_on (record { text = line_op_value op k place (slice_index_or work.parts k []); token = k; place = place }) Each
enters work op place Stop = moves_on (record { text = []; token = 0; place = place }) NoneOf
enters work op place (Unmet k) = never_passes k

-- a cell of another pipe: what came along its line goes on
abbrev pub goes_on : LineOp → ℕ → ℕ → List ℕ → OpMeaning
goes_on op token place text = moves_on (record { text = line_op_value op token place text; token = token; place = place }) Each

-- the cell of a task, whose pipe has this operation
abbrev pub cell_meaning : PipeWork → ℕ → List (InputValue Item) → LineOp → OpMeaning
cell_meaning work task found op =
    let place = next_place (pipeline_of work) (pipe_input (pipeline_of work) task found) in
    let along = line_input (pipeline_of work) task found in
    if pipe_of work task == 0 then enters work op place (passed_at work.order place) else goes_on op (token_in (pipeline_of work) along) (place_in along) (found_text along)

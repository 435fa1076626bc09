-- What a pipeline comes to, worked out token by token, without a journal and without an order of tasks.
use Rattle.std.specs.Prelude.{ℕ, ◌+◌, List, [], ◌∷◌, ◌++◌, length, nat_le, slice_index_or, is_none, Option, Some, None, if◌then◌else◌}
use Rattle.std.specs.Option.{option_and_then, option_map}
use Rattle.graph_plans.specs.declared.pipes.LineOp.{LineOp}
use Rattle.text_ops.specs.Values.{value_limit}
use Rattle.text_tasks.specs.declared.item.Item.{Item}
use Rattle.text_tasks.specs.CellMeaning.{line_op_value}
use Rattle.text_tasks.specs.PipeWork.{PipeWork}
use Rattle.run_laws.specs.TextAnswers.{as_value}

-- The text of a token with a place in the order behind pipes with these operations, where no text on its way is too
-- long for a value.
abbrev pub text_behind : List LineOp → ℕ → ℕ → List ℕ → Option (List ℕ)
text_behind [] token place text = Some text
text_behind (op ∷ ops) token place text =
    let made = line_op_value op token place text in
    if nat_le (length made) value_limit then text_behind ops token place made else None

-- The texts of these tokens behind all pipes, one behind the other; the first of them has this place in the order.
abbrev pub texts_behind : PipeWork → ℕ → List ℕ → Option (List ℕ)
texts_behind work place [] = Some []
texts_behind work place (token ∷ tokens) =
    option_and_then (λ text. option_map (λ texts. text ++ texts) (texts_behind work (place + 1) tokens)) (text_behind work.ops token place (slice_index_or work.parts token []))

-- What a pipeline comes to: nothing where a token never passes, or where a text on its way, or all of them together,
-- would be too long for a value.
abbrev pub pipe_value : PipeWork → Option Item
pipe_value work = if is_none work.order.unmet then option_and_then as_value (texts_behind work 0 work.order.passed) else None

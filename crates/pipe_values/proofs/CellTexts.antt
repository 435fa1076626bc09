-- What one cell of a pipeline of texts answers: the token with its place and the text that its pipe makes.
use Rattle.std.proofs.Common.{◌≡◌, ℕ, suc, ◌<◌, ◌≤◌, Bool, true, false, cond, List, length, get_or, Option, Some, None, sym, refl, ap, ◌∙◌}
use Rattle.std.specs.Prelude.{nat_le}
use Rattle.std.specs.Option.{option_and_then}
use Rattle.std.proofs.lemmas.Option.{none-some, same_Some}
use Rattle.task_graph.specs.NetRows.{NetRows}
use Rattle.join_words.specs.Ins.{InputValue, value}
use Rattle.run_frame.specs.declared.job.Answer.{Answer}
use Rattle.run_frame.specs.declared.job.Done.TheVariants.{Value}
use Rattle.graph_plans.specs.declared.pipes.LineOp.TheVariants.{Number}
use Rattle.pipe_lines.specs.declared.order.Passed.{Passed}
use Rattle.pipe_lines.specs.Orders.{passed_at}
use Rattle.text_ops.specs.Values.{value_limit}
use Rattle.text_tasks.specs.declared.item.CellItem.{CellItem}
use Rattle.text_tasks.specs.declared.item.Item.{Item}
use Rattle.text_tasks.specs.declared.item.Item.TheVariants.{Cell}
use Rattle.text_tasks.specs.declared.job.TextJob.TheVariants.{Pipe}
use Rattle.text_tasks.specs.Cells.{cell_task, line_input, next_place, pipe_input, token_in}
use Rattle.text_tasks.specs.CellMeaning.{enters, goes_on, place_in}
use Rattle.text_tasks.specs.FoundTexts.{found_text}
use Rattle.text_tasks.specs.JobMeaning.{net_of}
use Rattle.text_tasks.specs.OpMeaning.{moves_on}
use Rattle.text_tasks.specs.PipeWork.{IsPipeWork, PipeWork, pipeline_of}
use Rattle.run_laws.specs.OneThreadValue.{TaskEnd}
use Rattle.run_laws.specs.TextAnswers.{done_by}
use Rattle.pipe_laws.proofs.TextCells.{cell_answer, end_by, first_answer, later_answer}
use Rattle.pipe_values.proofs.Behind.{is_short, part_of, short_is, text_after}

-- ---- what goes on

-- an end with a value whose text isn't too long
pub record EndsWith (cell : CellItem) (end : TaskEnd Item) : Type 0 where
  pub value : end.value ≡ Cell cell
  pub short : length cell.text ≤ value_limit

module _ (net : NetRows) (t : ℕ) where
  abbrev Done : CellItem → Answer → Bool → Option (TaskEnd Item)
  Done cell chosen short = option_and_then (end_by net t) (cond short (Some (Value (Cell cell) chosen)) None)

  pub moved : (cell : CellItem) (chosen : Answer) (end : TaskEnd Item) → option_and_then (end_by net t) (done_by (moves_on cell chosen)) ≡ Some end → EndsWith cell end
  moved cell chosen end is = by_length (nat_le (length cell.text) value_limit) refl is
    where
      by_length : (b : Bool) → nat_le (length cell.text) value_limit ≡ b → Done cell chosen b ≡ Some end → EndsWith cell end
      by_length true short same = record { value = sym (ap (λ (e : TaskEnd Item). e.value) (same_Some _ _ same)); short = short_is cell.text short }
      by_length false long same = absurd (none-some _ same)

  -- where it isn't too long there is such an end
  pub moves : (cell : CellItem) (chosen : Answer) → length cell.text ≤ value_limit → option_and_then (end_by net t) (done_by (moves_on cell chosen)) ≡ None → ⊥
  moves cell chosen short none =
      let some : Done cell chosen true ≡ None = sym (ap (Done cell chosen) (is_short cell.text short)) ∙ none in
      cc

-- ---- the token of a place behind a pipe

module _ (work : PipeWork) where
  -- its text behind the first p pipes
  abbrev pub text_at : ℕ → ℕ → ℕ → List ℕ
  text_at place token p = text_after work.ops token place (part_of work token) p

  -- the value with which pipe p ends
  abbrev pub cell_at : ℕ → ℕ → ℕ → CellItem
  cell_at place token p = record { text = text_at place token (suc p); token = token; place = place }

module _ (work : PipeWork) (is : IsPipeWork work) (l p : ℕ) (low : p < length work.spec.serial) (found : List (InputValue Item)) where
  abbrev t : ℕ
  t = cell_task (pipeline_of work) l p

  abbrev net : NetRows
  net = net_of (Pipe work)

  -- a cell of the first pipe, at its place
  pub first_is : p ≡ 0 → (place : ℕ) (passed : Passed) → next_place (pipeline_of work) (pipe_input (pipeline_of work) t found) ≡ place → passed_at work.order place ≡ passed
      → cell_answer work t found ≡ option_and_then (end_by net t) (done_by (enters work (get_or work.ops p Number) place passed))
  first_is first place passed place_is met =
      first_answer work is l p low found first
      ∙ ap (λ n. option_and_then (end_by net t) (done_by (enters work (get_or work.ops p Number) n (passed_at work.order n)))) place_is
      ∙ ap (λ m. option_and_then (end_by net t) (done_by (enters work (get_or work.ops p Number) place m))) met

  -- a cell of another pipe, on the value of the pipe before
  pub later_is : (q : ℕ) → p ≡ suc q → (place token : ℕ) → line_input (pipeline_of work) t found ≡ value (Cell (cell_at work place token q))
      → cell_answer work t found ≡ option_and_then (end_by net t) (done_by (goes_on (get_or work.ops p Number) token place (text_at work place token (suc q))))
  later_is q more place token along =
      later_answer work is l p low found q more
      ∙ ap (λ (input : InputValue Item). option_and_then (end_by net t) (done_by (goes_on (get_or work.ops p Number) (token_in (pipeline_of work) input) (place_in input) (found_text input)))) along

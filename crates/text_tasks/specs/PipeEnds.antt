-- What a pipeline's run comes to: the texts with which the last pipe ends, in the order in which their tokens passed
-- the first one.
use Rattle.std.specs.Prelude.{ℕ, ◌-◌, ◌%◌, ◌==◌, Bool, false, if◌then◌else◌, List, [], length, filter, Option, None}
use Rattle.std.specs.List.{flat_map, last_or, range_with_len}
use Rattle.std.specs.Option.{option_and_then, option_map_or}
use Rattle.journal_rules.specs.declared.entry.Entry.{Entry}
use Rattle.run_frame.specs.declared.run.FrameRun.{FrameRun}
use Rattle.run_frame.specs.declared.run.ValueRow.{ValueRow}
use Rattle.run_frame.specs.LastEnds.{ended_at}
use Rattle.run_frame.specs.NestedRule.{journal_of}
use Rattle.run_frame.specs.Runs.{value_at, values_of}
use Rattle.text_tasks.specs.declared.item.Item.{Item}
use Rattle.text_tasks.specs.declared.job.TextJob.{TextJob}
use Rattle.text_tasks.specs.Items.{item_place, item_text}
use Rattle.text_tasks.specs.PipeWork.{PipeWork}

-- whether a task is a cell of the last of so many pipes
abbrev pub in_last_pipe : ℕ → ℕ → Bool
in_last_pipe pipes task = task % pipes == pipes - 1

-- whether the End of a cell of the last pipe stands at a place of the journal, with the token that has a place in the
-- order
abbrev pub ends_token : ℕ → List Entry → List (ValueRow Item) → ℕ → ℕ → Bool
ends_token pipes journal values place n =
    if option_map_or (in_last_pipe pipes) (ended_at journal n) false then option_map_or (λ item. item_place item == place) (value_at values n) false else false

-- the last such End before a number
abbrev pub token_end_before : ℕ → List Entry → List (ValueRow Item) → ℕ → ℕ → Option ℕ
token_end_before pipes journal values n place = last_or None (filter (ends_token pipes journal values place) (range_with_len 0 n))

-- the text of the token that has a place in the order, as the last pipe ends with it
abbrev pub text_at_place : ℕ → FrameRun TextJob Item → ℕ → List ℕ
text_at_place pipes run place =
    option_map_or item_text (option_and_then (value_at (values_of run)) (token_end_before pipes (journal_of run) (values_of run) (length (journal_of run)) place)) []

-- the texts of all that pass, in their order
abbrev pub pipe_text : PipeWork → FrameRun TextJob Item → List ℕ
pipe_text work run = flat_map (text_at_place (length work.spec.serial) run) (range_with_len 0 (length work.order.passed))

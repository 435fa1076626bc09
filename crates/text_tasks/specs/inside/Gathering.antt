-- What a run ended with, put down so that each value is found at once.
use Rattle.std.specs.Prelude.{◌≡◌, ℕ, ◌<◌, false, List, length, Option, None, if◌then◌else◌, slice_index_or}
use Rattle.std.specs.Arc.{arc_value}
use Rattle.std.specs.Global.{Global}
use Rattle.std.specs.declared.sync.Arc.{Arc}
use Rattle.std.specs.List.{flat_map}
use Rattle.std.specs.Option.{option_and_then, option_map, option_map_or}
use Rattle.journal_rules.specs.declared.entry.Entry.{Entry}
use Rattle.run_frame.specs.LastEnds.{ended_at, last_end}
use Rattle.run_frame.specs.NestedRule.{journal_of}
use Rattle.run_frame.specs.Runs.{value_at, values_of}
use Rattle.run_frame.specs.declared.run.FrameRun.{FrameRun}
use Rattle.run_frame.specs.declared.run.ValueRow.{ValueRow}
use Rattle.text_tasks.specs.declared.gathered.LastValues.{LastValues}
use Rattle.text_tasks.specs.declared.item.Item.{Item}
use Rattle.text_tasks.specs.declared.job.TextJob.{TextJob}
use Rattle.text_tasks.specs.Items.{item_place}
use Rattle.text_tasks.specs.PipeEnds.{in_last_pipe, token_end_before}

-- these texts, one behind the other
abbrev pub all_of : List (List ℕ) → List ℕ
all_of texts = flat_map (λ text. text) texts

-- the value that is put down of a place of the journal
abbrev pub value_held : List (Option (Arc Item Global)) → ℕ → Option Item
value_held values n = option_map arc_value (slice_index_or values n None)

-- the value of the last End of a number
abbrev pub last_held : LastValues → ℕ → Option Item
last_held last number = option_and_then (value_held last.values.items) (slice_index_or last.ends.items number None)

-- the value of the End at each place of the journal
pub record AreValuesOf (run : FrameRun TextJob Item) (values : List (Option (Arc Item Global))) : Type 0 where
  pub count : length values ≡ length (journal_of run)
  pub each : (n : ℕ) → n < length (journal_of run) → value_held values n ≡ value_at (values_of run) n

-- the place of the last End of each of so many tasks, and the values
pub record AreLastValues (run : FrameRun TextJob Item) (tasks : ℕ) (last : LastValues) : Type 0 where
  pub end_count : length last.ends.items ≡ tasks
  pub ends : (t : ℕ) → t < tasks → slice_index_or last.ends.items t None ≡ last_end (journal_of run) t
  pub values : AreValuesOf run last.values.items

-- the place in the order of the token with which the last pipe ends at a place of the journal, if it does there
abbrev pub token_ended : ℕ → List Entry → List (ValueRow Item) → ℕ → Option ℕ
token_ended pipes journal values n =
    if option_map_or (in_last_pipe pipes) (ended_at journal n) false then option_map item_place (value_at values n) else None

-- where the last pipe's last End is of the token at each of so many places of the order, and the values
pub record AreTokenValues (run : FrameRun TextJob Item) (pipes places : ℕ) (last : LastValues) : Type 0 where
  pub end_count : length last.ends.items ≡ places
  pub ends : (place : ℕ) → place < places → slice_index_or last.ends.items place None ≡ token_end_before pipes (journal_of run) (values_of run) (length (journal_of run)) place
  pub values : AreValuesOf run last.values.items

-- The tasks that lead to no other, and what they end with.
use Rattle.std.specs.Prelude.{ℕ, suc, ◌==◌, Bool, List, [], ◌∷◌, ◌++◌, length, map, filter, Option, None, if◌then◌else◌}
use Rattle.std.specs.List.{last_or, range_with_len}
use Rattle.std.specs.Option.{option_map_or}
use Rattle.task_graph.specs.NetRows.{NetRows}
use Rattle.task_graph.specs.Net.{out_edges}
use Rattle.run_frame.specs.declared.run.FrameRun.{FrameRun}
use Rattle.run_frame.specs.Runs.{values_of}
use Rattle.run_frame.specs.NestedRule.{journal_of}
use Rattle.run_frame.specs.LastEnds.{last_value}
use Rattle.text_tasks.specs.declared.item.Item.{Item}
use Rattle.text_tasks.specs.Items.{item_text}

-- whether a task leads to no other
abbrev pub is_sink : NetRows → ℕ → Bool
is_sink net t = length (out_edges net t) == 0

-- the last task below a number that leads to no other
abbrev pub last_sink_below : NetRows → ℕ → Option ℕ
last_sink_below net n = last_or None (filter (is_sink net) (range_with_len 0 n))

-- the last task that leads to no other
abbrev pub last_sink : NetRows → Option ℕ
last_sink net = last_sink_below net (length net.tasks)

-- the value of each task's last End, by their numbers
abbrev pub task_values : {J V : Type 0} → NetRows → FrameRun J V → List (Option V)
task_values net run = map (last_value (journal_of run) (values_of run)) (range_with_len 0 (length net.tasks))

-- what a task adds to the text to which its run is gathered: its value, where it leads to no other and has one
abbrev pub sink_text : NetRows → ℕ → Option Item → List ℕ
sink_text net t value = if is_sink net t then option_map_or item_text value [] else []

-- what the tasks from this number on add that have these values, one behind the other
abbrev pub sink_texts : NetRows → ℕ → List (Option Item) → List ℕ
sink_texts net t [] = []
sink_texts net t (value ∷ values) = sink_text net t value ++ sink_texts net (suc t) values

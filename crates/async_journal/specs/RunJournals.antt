-- The journal of a run of async tasks.
use Rattle.std.specs.Prelude.{ℕ, Bool, false, nat_lt, if◌then◌else◌, List, [], ◌∷◌, length, map, Option, Some, None, slice_get, unwrap_or}
use Rattle.std.specs.List.{position}
use Rattle.task_graph.specs.NetRows.{NetRows}
use Rattle.task_graph.specs.Net.{out_edges}
use Rattle.journal_rules.specs.declared.entry.Cause.{Cause}
use Rattle.journal_rules.specs.declared.entry.Cause.TheVariants.{Source, Strong}
use Rattle.journal_rules.specs.declared.entry.Part.{Part}
use Rattle.journal_rules.specs.declared.entry.Part.TheVariants.{From}
use Rattle.journal_rules.specs.declared.entry.Entry.{Entry}
use Rattle.journal_rules.specs.declared.entry.Entry.TheVariants.{Start, End}
use Rattle.async_tasks.specs.declared.history.AddRow.{AddRow}
use Rattle.async_tasks.specs.declared.history.TaskEvent.{TaskEvent}
use Rattle.async_tasks.specs.declared.history.TaskEvent.TheVariants.{Started, Ended}
use Rattle.async_tasks.specs.Histories.{is_start_of, is_end_of}

-- the index of the first such event of a task, or 0 where the task has none or no add
abbrev pub place_of : (ℕ → TaskEvent → Bool) → List AddRow → List TaskEvent → ℕ → ℕ
place_of is_event adds events t = if nat_lt t (length adds) then unwrap_or (position (is_event t) events) 0 else 0

-- the tasks that an add names
abbrev pub named_by : Option AddRow → List ℕ
named_by None = []
named_by (Some row) = row.after

-- what the start of a task after these comes from
abbrev pub cause_after : List ℕ → Cause
cause_after [] = Source
cause_after (before ∷ after) = Strong

-- what it finds of one of them: the value of its end
abbrev pub part_of : List AddRow → List TaskEvent → ℕ → Part
part_of adds events before = From (place_of is_end_of adds events before)

-- the edges that the end of a task gives
abbrev pub end_gives : NetRows → ℕ → List ℕ
end_gives net t = if nat_lt t (length net.tasks) then out_edges net t else []

-- the entry of an event
abbrev pub entry_of : NetRows → List AddRow → List TaskEvent → TaskEvent → Entry
entry_of net adds events (Started t) = Start t (cause_after (named_by (slice_get adds t))) (map (part_of adds events) (named_by (slice_get adds t)))
entry_of net adds events (Ended t) = End (place_of is_start_of adds events t) (end_gives net t) false

-- the journal of events: the entry of each, at its index
abbrev pub run_journal : NetRows → List AddRow → List TaskEvent → List Entry
run_journal net adds events = map (entry_of net adds events) events

-- Tables of the indices at which tasks were started, or ended.
use Rattle.std.specs.Prelude.{◌≡◌, ℕ, ◌<◌, Bool, false, List, length, map, Option, Some, None, slice_get, slice_set}
use Rattle.std.specs.List.{position}
use Rattle.task_graph.specs.NetRows.{NetRows}
use Rattle.journal_rules.specs.declared.entry.Part.{Part}
use Rattle.journal_rules.specs.declared.entry.Part.TheVariants.{From}
use Rattle.journal_rules.specs.declared.entry.Entry.{Entry}
use Rattle.journal_rules.specs.declared.entry.Entry.TheVariants.{Start, End}
use Rattle.async_tasks.specs.declared.history.AddRow.{AddRow}
use Rattle.async_tasks.specs.declared.history.TaskEvent.{TaskEvent}
use Rattle.async_tasks.specs.declared.history.TaskEvent.TheVariants.{Started, Ended}
use Rattle.async_tasks.specs.Histories.{is_start_of, is_end_of}
use Rattle.async_journal.specs.declared.places.EventKind.{EventKind}
use Rattle.async_journal.specs.declared.places.EventKind.TheVariants.{Starts, Ends}
use Rattle.async_journal.specs.RunJournals.{cause_after, end_gives, named_by}

-- the table has the index of the first such event of each of so many tasks
pub record IsTableOf (is_event : ℕ → TaskEvent → Bool) (tasks : ℕ) (events : List TaskEvent) (table : List (Option ℕ)) : Type 0 where
  pub count : length table ≡ tasks
  pub each : (t : ℕ) → t < tasks → slice_get table t ≡ Some (position (is_event t) events)

-- the table with an index for a task, unless it has one
abbrev pub noted_at : List (Option ℕ) → ℕ → ℕ → Option (Option ℕ) → List (Option ℕ)
noted_at table t place None = table
noted_at table t place (Some None) = slice_set table t (Some place)
noted_at table t place (Some (Some first)) = table

abbrev pub noted : List (Option ℕ) → ℕ → ℕ → List (Option ℕ)
noted table t place = noted_at table t place (slice_get table t)

-- whether an event is a start of a task, or whether it is an end
abbrev pub is_of_kind : EventKind → ℕ → TaskEvent → Bool
is_of_kind Starts = is_start_of
is_of_kind Ends = is_end_of

-- the task of an event, if the event is of the kind
abbrev pub task_if : EventKind → TaskEvent → Option ℕ
task_if Starts (Started t) = Some t
task_if Starts (Ended t) = None
task_if Ends (Started t) = None
task_if Ends (Ended t) = Some t

-- the table after an event, if it is of the kind
abbrev pub noted_task : List (Option ℕ) → Option ℕ → ℕ → List (Option ℕ)
noted_task table None place = table
noted_task table (Some t) place = noted table t place

abbrev pub noted_event : EventKind → List (Option ℕ) → Option TaskEvent → ℕ → List (Option ℕ)
noted_event kind table None place = table
noted_event kind table (Some event) place = noted_task table (task_if kind event) place

-- the index that a table has for a task, or 0
abbrev pub known_place : Option (Option ℕ) → ℕ
known_place None = 0
known_place (Some None) = 0
known_place (Some (Some place)) = place

abbrev pub noted_place : List (Option ℕ) → ℕ → ℕ
noted_place table t = known_place (slice_get table t)

abbrev pub noted_part : List (Option ℕ) → ℕ → Part
noted_part ends before = From (noted_place ends before)

-- the entry of an event, by the tables of starts and ends
abbrev pub entry_by : NetRows → List AddRow → List (Option ℕ) → List (Option ℕ) → TaskEvent → Entry
entry_by net adds starts ends (Started t) = Start t (cause_after (named_by (slice_get adds t))) (map (noted_part ends) (named_by (slice_get adds t)))
entry_by net adds starts ends (Ended t) = End (noted_place starts t) (end_gives net t) false

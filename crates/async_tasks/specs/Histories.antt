-- Histories of tasks that are added while others run, and which of them are right.
use Rattle.std.specs.Prelude.{◌≡◌, ℕ, ◌<◌, ◌≤◌, Bool, false, ◌==◌, List, [], ◌∷◌, ◌++◌, length, count_by, filter, map, slice_get, Option, IsSomeAnd}
use Rattle.std.specs.Option.{option_to_list}
use Rattle.std.specs.List.{AllByRecursion}
use Rattle.journal_rules.specs.Entries.{EachAfter}
use Rattle.async_tasks.specs.declared.history.AddRow.{AddRow}
use Rattle.async_tasks.specs.declared.history.TaskEvent.{TaskEvent}
use Rattle.async_tasks.specs.declared.history.TaskEvent.TheVariants.{Started, Ended}

-- whether an event is the start of a task
abbrev pub is_start_of : ℕ → TaskEvent → Bool
is_start_of t (Started u) = u == t
is_start_of t (Ended u) = false

-- whether it is the end of a task
abbrev pub is_end_of : ℕ → TaskEvent → Bool
is_end_of t (Started u) = false
is_end_of t (Ended u) = u == t

-- how often a task was started
abbrev pub times_started : List TaskEvent → ℕ → ℕ
times_started events t = count_by (is_start_of t) events

-- how often it ended
abbrev pub times_ended : List TaskEvent → ℕ → ℕ
times_ended events t = count_by (is_end_of t) events

-- each of these tasks ended
abbrev pub AllEnded : List TaskEvent → List ℕ → Type 0
AllEnded events tasks = AllByRecursion (λ a. times_ended events a ≡ 1) tasks

-- A row may follow these rows: it has the next number, names rows before it, and was added no earlier than they.
pub record RowRule (callers : ℕ) (rows : List AddRow) (row : AddRow) : Type 0 where
  pub id : row.id ≡ length rows
  pub caller : row.caller < callers
  pub after : AllByRecursion (λ a. a < length rows) row.after
  pub rising : AllByRecursion (λ (earlier : AddRow). earlier.place ≤ row.place) rows

-- A task starts once, after its row was added and after all that it names ended. It ends once, after its start.
abbrev pub EventRule : List AddRow → List TaskEvent → TaskEvent → Type 0
EventRule rows events (Started t) =
    (times_started events t ≡ 0)
    × IsSomeAnd (slice_get rows t) (λ (row : AddRow). (row.place ≤ length events) × AllEnded events row.after)
EventRule rows events (Ended t) = (times_started events t ≡ 1) × (times_ended events t ≡ 0)

-- The adds and the events are those of a book with so many callers.
pub record IsHistory (callers : ℕ) (rows : List AddRow) (events : List TaskEvent) : Type 0 where
  pub each_row : EachAfter (RowRule callers) rows
  pub places : AllByRecursion (λ (row : AddRow). row.place ≤ length events) rows
  pub each_event : EachAfter (EventRule rows) events

-- the rows of a caller
abbrev pub rows_of : ℕ → List AddRow → List AddRow
rows_of caller rows = filter (λ (row : AddRow). row.caller == caller) rows

-- what a pass has kept: of each of its adds the number and the tasks named
abbrev pub kept_row : AddRow → ℕ × List ℕ
kept_row row = (row.id, row.after)

abbrev pub kept_of : ℕ → List AddRow → List (ℕ × List ℕ)
kept_of caller rows = map kept_row (rows_of caller rows)

-- the values of these tasks, in the order in which they are named
abbrev pub found : {V : Type 0} → (ℕ → Option V) → List ℕ → List V
found value_of [] = []
found value_of (a ∷ tasks) = option_to_list (value_of a) ++ found value_of tasks

-- What holds of a book of tasks whenever its lock is free.
use Rattle.std.specs.Prelude.{◌≡◌, ℕ, ◌+◌, ◌*◌, ◌≤◌, List, ◌++◌, length, Option, Some, None, slice_get, map, sum_by, IsSomeAnd}
use Rattle.std.specs.Arc.{arc_value}
use Rattle.async_tasks.specs.declared.history.AddRow.{AddRow}
use Rattle.async_tasks.specs.declared.history.TaskEvent.{TaskEvent}
use Rattle.async_tasks.specs.declared.history.TaskEvent.TheVariants.{Ended}
use Rattle.async_tasks.specs.declared.outstanding.Outstanding.{Outstanding}
use Rattle.async_tasks.specs.declared.outstanding.Outstanding.TheVariants.{Pass, Running, Recorded}
use Rattle.async_tasks.specs.declared.stage.Stage.{Stage}
use Rattle.async_tasks.specs.declared.stage.Stage.TheVariants.{Waiting, Open, Over}
use Rattle.async_tasks.specs.Histories.{times_started, times_ended, AllEnded, IsHistory, rows_of, found}
use Rattle.async_tasks.specs.Books.{BookHistory, value_at, holder_of}
use Rattle.async_tasks.specs.Adds.{task_limit}

-- how far a task is, by what happened
abbrev pub StageFits : {V : Type 0} → List TaskEvent → ℕ → Option (Stage V) → Type 0
StageFits events t None = (times_started events t ≡ 0) × (times_ended events t ≡ 0)
StageFits events t (Some Waiting) = (times_started events t ≡ 0) × (times_ended events t ≡ 0)
StageFits events t (Some Open) = (times_started events t ≡ 1) × (times_ended events t ≡ 0)
StageFits events t (Some (Over value)) = (times_started events t ≡ 1) × (times_ended events t ≡ 1)

-- how many events of a task are still to come
abbrev pub events_left : {V : Type 0} → Stage V → ℕ
events_left Waiting = 2
events_left Open = 1
events_left (Over value) = 0

-- What a pass has seen is a prefix of the rows, with all of its caller's. An open start has its task's work, and found
-- the values of the tasks named. An end that was recorded is at its index.
abbrev pub ItemFits : {W V : Type 0} → BookHistory W V → Outstanding W V → Type 0
ItemFits book (Pass caller seen) =
    ((more : List AddRow) × (book.rows ≡ seen.value.items ++ more))
    × (rows_of caller book.rows ≡ rows_of caller seen.value.items)
ItemFits book (Running task work ins) =
    (slice_get book.stages task ≡ Some Open)
    × (slice_get book.works task ≡ Some (arc_value work.value))
    × IsSomeAnd (slice_get book.rows task) (λ (row : AddRow). map arc_value ins.value ≡ found (value_at book.stages) row.after)
ItemFits book (Recorded task place) = slice_get book.events place ≡ Some (Ended task)

-- The history is right, each task is as far as it says and has the other events to come, each value is one that the
-- task's work allows on the values of the tasks named, and what is outstanding fits, each caller, each task and each
-- end once.
pub record KeepsBook {W V : Type 0} (answers : W → List V → V → Type 0) (book : BookHistory W V) : Type 0 where
  pub history : IsHistory book.callers book.rows book.events
  pub row_count : length book.rows ≤ task_limit
  pub work_count : length book.works ≡ length book.rows
  pub stage_count : length book.stages ≡ length book.rows
  pub event_count : length book.events + sum_by events_left book.stages ≡ 2 * length book.rows
  pub staged : (t : ℕ) → StageFits book.events t (slice_get book.stages t)
  pub inputs : (t : ℕ) (row : AddRow) → slice_get book.rows t ≡ Some row → times_started book.events t ≡ 1 → AllEnded book.events row.after
  pub values : (t : ℕ) (row : AddRow) (work : W) (v : V) → slice_get book.rows t ≡ Some row → slice_get book.works t ≡ Some work → value_at book.stages t ≡ Some v → answers work (found (value_at book.stages) row.after) v
  pub fits : (n : ℕ) (item : Outstanding W V) → slice_get book.items n ≡ Some (Some item) → ItemFits book item
  pub once : (n m : ℕ) (x y : Outstanding W V) → slice_get book.items n ≡ Some (Some x) → slice_get book.items m ≡ Some (Some y) → holder_of x ≡ holder_of y → n ≡ m

-- the memory of the events has room for a start and an end of each task
abbrev pub HasEventRoom : ℕ → ℕ → Type 0
HasEventRoom tasks capacity = 2 * tasks ≤ capacity

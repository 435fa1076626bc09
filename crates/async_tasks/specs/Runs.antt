-- Finished runs of books of tasks.
use Rattle.std.specs.Prelude.{◌≡◌, ℕ, ◌<◌, true, List, length, map, Some, slice_get, is_some}
use Rattle.std.specs.Arc.{arc_value}
use Rattle.async_tasks.specs.declared.history.AddRow.{AddRow}
use Rattle.async_tasks.specs.declared.run.AsyncRun.{AsyncRun}
use Rattle.async_tasks.specs.Histories.{times_started, times_ended, IsHistory, found}
use Rattle.async_tasks.specs.Books.{value_at}

-- The adds and the events are a right history, in which each task was started once and ended. There is one work for
-- each task, and one value, which its work may come to on the values of the tasks named.
pub record IsAsyncRun {W V : Type 0} (answers : W → List V → V → Type 0) (callers : ℕ) (run : AsyncRun W V) : Type 0 where
  pub history : IsHistory callers run.adds run.events
  pub complete : (t : ℕ) → t < length run.adds → (times_started run.events t ≡ 1) × (times_ended run.events t ≡ 1)
  pub work_count : length run.works ≡ length run.adds
  pub value_count : length run.stages ≡ length run.adds
  pub each_value : (t : ℕ) → t < length run.adds → is_some (value_at run.stages t) ≡ true
  pub values : (t : ℕ) (row : AddRow) (work : W) (v : V) → slice_get run.adds t ≡ Some row → slice_get (map arc_value run.works) t ≡ Some work → value_at run.stages t ≡ Some v → answers work (found (value_at run.stages) row.after) v

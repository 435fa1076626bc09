-- Finished runs of async tasks, and the journals of finished runs of nets.
use Rattle.std.specs.Prelude.{◌≡◌, ℕ, ◌<◌, ◌≤◌, List, length}
use Rattle.std.specs.List.{AllByRecursion}
use Rattle.task_graph.specs.NetRows.{NetRows}
use Rattle.journal_rules.specs.declared.entry.Entry.{Entry}
use Rattle.journal_rules.specs.ShapeLegal.{ShapeLegal, MeetsDataRule}
use Rattle.journal_rules.specs.Complete.{Complete}
use Rattle.async_tasks.specs.Adds.{after_limit, task_limit}
use Rattle.async_tasks.specs.declared.history.AddRow.{AddRow}
use Rattle.async_tasks.specs.declared.history.TaskEvent.{TaskEvent}
use Rattle.async_tasks.specs.Histories.{times_started, times_ended, IsHistory}

-- the history of a book with some number of callers, in which each task was started once and ended once
pub record IsFinishedHistory (adds : List AddRow) (events : List TaskEvent) : Type 0 where
  pub callers : ℕ
  pub history : IsHistory callers adds events
  pub each : (t : ℕ) → t < length adds → (times_started events t ≡ 1) × (times_ended events t ≡ 1)

-- The adds are those of a finished run, there are no more than a book takes, and none names more tasks than an add may.
pub record AreBookAdds (adds : List AddRow) : Type 0 where
  pub events : List TaskEvent
  pub history : IsFinishedHistory adds events
  pub count : length adds ≤ task_limit
  pub after : AllByRecursion (λ (row : AddRow). length row.after ≤ after_limit) adds

-- The journal is legal and that of a finished run of the net with so many starts at most, and each start finds what it
-- may.
pub record IsWholeJournal (net : NetRows) (limit : ℕ) (journal : List Entry) : Type 0 where
  pub legal : ShapeLegal net limit journal
  pub found : MeetsDataRule net journal
  pub complete : Complete net limit journal

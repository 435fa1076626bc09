-- When more units of a semaphore are claimed than come from elsewhere, by two numbers.
use Rattle.std.specs.Prelude.{ℕ, ◌+◌, ◌≤◌, not, ◌&&◌, ◌⊎◌, List, length, take}
use Rattle.task_graph.specs.NetRows.{NetRows}
use Rattle.journal_rules.specs.declared.entry.Entry.{Entry}
use Rattle.journal_rules.specs.SemaphoreRule.{takes, puts, starts_at, closed_takers}

-- how many Starts are of tasks that put the semaphore and don't take it
abbrev pub putters : NetRows → ℕ → List Entry → ℕ
putters net s journal = starts_at (λ n t. puts net s t && not (takes net s t)) journal

-- there are more such Starts than closed Starts of tasks that take the semaphore and don't put it
abbrev pub IsOver : NetRows → ℕ → List Entry → Type 0
IsOver net s journal = closed_takers net s journal + 1 ≤ putters net s journal

-- Each prefix that is over is at most `last` entries long, unless the whole journal is over; and there is a prefix of
-- that length that is over, if any is.
pub record WasOver (net : NetRows) (s : ℕ) (journal : List Entry) (last : ℕ) : Type 0 where
  pub within : last ≤ length journal
  pub before : (n : ℕ) → n ≤ length journal → IsOver net s (take n journal) → (n ≤ last) ⊎ IsOver net s journal
  pub over : 1 ≤ last → IsOver net s (take last journal)

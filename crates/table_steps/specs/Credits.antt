-- When a claim of a unit is refused.
use Rattle.std.specs.Prelude.{◌≡◌, ℕ, List, Some}
use Rattle.task_graph.specs.NetRows.{NetRows}
use Rattle.journal_rules.specs.declared.entry.Entry.{Entry}
use Rattle.journal_rules.specs.Counts.{start_at}
use Rattle.journal_rules.specs.SemaphoreRule.{IsOverRelease}
use Rattle.journal_rules.specs.ShapeLegal.{ShapeLegal}

-- what a credit word is at first, so that a claim that is refused wraps nothing
abbrev pub first_credit : ℕ
first_credit = 1099511627776

-- A journal that is legal as far as the net decides has this start of a task, and allows a Fault for an
-- over-release of the semaphore.
pub record AllowsOver (net : NetRows) (limit s place t : ℕ) : Type 0 where
  pub journal : List Entry
  pub legal : ShapeLegal net limit journal
  pub start : start_at journal place ≡ Some t
  pub over : IsOverRelease net journal s place t

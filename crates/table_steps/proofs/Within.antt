-- The units of each semaphore are within their bounds, and a Fault or Drop changes none.
use Rattle.std.proofs.Common.{ℕ, List, length, arith}
use Rattle.std.specs.List.{AllByRecursion, range_with_len}
use Rattle.task_graph.specs.NetRows.{NetRows}
use Rattle.journal_rules.specs.declared.entry.Entry.{Entry}
use Rattle.journal_rules.specs.SemaphoreRule.{UnitsInBounds}
use Rattle.journal_rules.proofs.Reaching.{each_below}
use Rattle.table_steps.specs.inside.Accounts.{Coord}
use Rattle.table_steps.proofs.Units.{Units}
use Rattle.table_steps.proofs.Credits.{Credits}

pub all_within : (net : NetRows) (unit credit : ℕ → ℕ) (journal : List Entry) (T : Coord → ℕ) → Units net unit journal T → Credits net credit journal T → AllByRecursion (UnitsInBounds net journal) (range_with_len 0 (length net.sems))
all_within net unit credit journal T u k = each_below _ (length net.sems) (λ s below. (omega (arith, (k s below).backed), omega (arith, (u s below).within)))

-- When a release may be dropped, and when no start may follow.
use Rattle.std.specs.Prelude.{◌≡◌, ℕ, ◌<◌, ◌≤◌, Bool, true, false, List, count_by, IsTrue}
use Rattle.task_graph.specs.NetRows.{NetRows}
use Rattle.journal_rules.specs.declared.entry.DropWhy.{DropWhy}
use Rattle.journal_rules.specs.declared.entry.DropWhy.TheVariants.{Halted, Limit, Stuck}
use Rattle.journal_rules.specs.declared.entry.Entry.{Entry}
use Rattle.journal_rules.specs.declared.entry.Entry.TheVariants.{Start, End, Fault, Drop}
use Rattle.journal_rules.specs.Counts.{starts, faults, NoneOpen}
use Rattle.journal_rules.specs.SemaphoreRule.{takes, HasUnit}

-- whether a Drop says that a unit is wanting
abbrev pub is_stuck_why : DropWhy → Bool
is_stuck_why Halted = false
is_stuck_why Limit = false
is_stuck_why (Stuck s) = true

-- whether an entry is a Drop for want of a unit
abbrev pub is_stuck : Entry → Bool
is_stuck (Start task cause ins) = false
is_stuck (End start gives inner) = false
is_stuck (Fault start why) = false
is_stuck (Drop task cause why) = is_stuck_why why

-- a release of a task may be dropped for want of a unit: nothing has faulted, nothing runs, and the task takes
-- the semaphore, which has no unit
pub record MayBeStuck (net : NetRows) (journal : List Entry) (t s : ℕ) : Type 0 where
  pub no_fault : faults journal ≡ 0
  pub none_open : NoneOpen journal
  pub takes_it : IsTrue (takes net s t)
  pub no_unit : ¬ HasUnit net s journal

-- A release is dropped as halted only after a Fault. A Drop at the limit is judged at the end of the run.
abbrev pub DropRule : NetRows → List Entry → ℕ → DropWhy → Type 0
DropRule net journal t Halted = 1 ≤ faults journal
DropRule net journal t Limit = Unit {0}
DropRule net journal t (Stuck s) = MayBeStuck net journal t s

-- There are at most `limit` Starts, and each Drop has its cause.
abbrev pub LimitRule : NetRows → ℕ → List Entry → Entry → Type 0
LimitRule net limit journal (Start task cause ins) = starts journal < limit
LimitRule net limit journal (End start gives inner) = Unit {0}
LimitRule net limit journal (Fault start why) = Unit {0}
LimitRule net limit journal (Drop task cause why) = DropRule net journal task why

-- After a Drop for want of a unit only such Drops follow.
abbrev pub AfterStuckRule : List Entry → Entry → Type 0
AfterStuckRule journal entry = is_stuck entry ≡ false → count_by is_stuck journal ≡ 0

-- a Start within the limit, or a Drop with its cause, and nothing but such Drops after a Drop for want of a unit
pub record HaltLimitStuckRule (net : NetRows) (limit : ℕ) (journal : List Entry) (entry : Entry) : Type 0 where
  pub dropped : LimitRule net limit journal entry
  pub after_stuck : AfterStuckRule journal entry

-- The units that a start misses, and those that an end would give back though nothing is out.
use Rattle.std.specs.Prelude.{◌≡◌, ℕ, ◌<◌, List, IsTrue}
use Rattle.task_graph.specs.NetRows.{NetRows}
use Rattle.journal_rules.specs.declared.entry.Entry.{Entry}
use Rattle.journal_rules.specs.SemaphoreRule.{takes, puts, taken, back, HasUnit}

-- the least number with a property
pub record IsLeast (P : ℕ → Type 0) (s : ℕ) : Type 0 where
  pub has_it : P s
  pub least : (r : ℕ) → r < s → ¬ P r

-- a task takes the semaphore, which has no unit
abbrev pub WantsUnit : NetRows → List Entry → ℕ → ℕ → Type 0
WantsUnit net journal t s = IsTrue (takes net s t) × ¬ HasUnit net s journal

-- a task puts the semaphore, of which as many units are back as were taken
abbrev pub PutsWithNothingOut : NetRows → List Entry → ℕ → ℕ → Type 0
PutsWithNothingOut net journal t s = IsTrue (puts net s t) × (back net s journal ≡ taken net s journal)

-- Units taken and given back keep the accounts.
use Rattle.std.proofs.Common.{ℕ, ◌<◌, List, length}
use Rattle.task_graph.specs.NetRows.{NetRows}
use Rattle.journal_rules.specs.declared.entry.Entry.{Entry}
use Rattle.table_steps.specs.inside.Accounts.{Coord, UnitPart}

-- the units of all semaphores
abbrev pub Units : NetRows → (ℕ → ℕ) → List Entry → (Coord → ℕ) → Type 0
Units net unit journal T = (s : ℕ) → s < length net.sems → UnitPart net (unit s) s journal T

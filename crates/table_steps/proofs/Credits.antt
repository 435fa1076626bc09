-- Credits and claims keep the account of units; a claim is refused only where a unit would be given back that isn't
-- out.
use Rattle.std.proofs.Common.{ℕ, ◌<◌, List, length}
use Rattle.task_graph.specs.NetRows.{NetRows}
use Rattle.journal_rules.specs.declared.entry.Entry.{Entry}
use Rattle.table_steps.specs.inside.Accounts.{Coord, CreditPart}

abbrev pub Credits : NetRows → (ℕ → ℕ) → List Entry → (Coord → ℕ) → Type 0
Credits net credit journal T = (s : ℕ) → s < length net.sems → CreditPart net (credit s) s journal T

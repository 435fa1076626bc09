-- What a machine is to its callers.
use Rattle.std.specs.Prelude.{ℕ, List}
use Rattle.task_graph.specs.NetRows.{NetRows}
use Rattle.journal_rules.specs.declared.entry.Entry.{Entry}

-- a net, a limit of starts, and the journal so far
pub record MachineState : Type 0 where
  pub net : NetRows
  pub limit : ℕ
  pub journal : List Entry

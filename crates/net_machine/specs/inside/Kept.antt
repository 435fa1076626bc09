-- What a machine keeps beside its journal.
use Rattle.std.specs.Prelude.{◌≡◌, ℕ, List, length}
use Rattle.task_graph.specs.NetRows.{NetRows}
use Rattle.journal_rules.specs.declared.entry.Entry.{Entry}
use Rattle.journal_rules.specs.declared.entry.Part.{Part}
use Rattle.journal_rules.specs.declared.counts.Counts.{Counts}
use Rattle.journal_rules.specs.ShapeLegal.{MeetsDataRule}
use Rattle.journal_rules.specs.inside.Reached.{IsReached}
use Rattle.net_machine.specs.inside.Waits.{Waits, TellsWaiting}
use Rattle.journal_rules.specs.inside.Counted.{IsCounted}

-- a journal that one thread keeps: shape-legal, each Start finds what it may, and so will the next one
pub record IsLed (net : NetRows) (limit : ℕ) (journal : List Entry) : Type 0 where
  pub reached : IsReached net limit journal
  pub meets_data : MeetsDataRule net journal
  pub waits : (e : ℕ) → Waits net journal e

-- a machine's parts fit together
pub record IsMachineFor (net : NetRows) (limit : ℕ) (journal : List Entry) (counts : Counts) (parts : List Part) (marks : ℕ) : Type 0 where
  pub led : IsLed net limit journal
  pub counted : IsCounted net journal counts
  pub waiting : TellsWaiting net journal parts
  pub marks_are : marks ≡ length net.edges

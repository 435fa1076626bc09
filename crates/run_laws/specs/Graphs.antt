-- Nets of graphs without conditions.
use Rattle.std.specs.Prelude.{◌≡◌, ℕ, ◌<◌, ◌≤◌, length}
use Rattle.task_graph.specs.NetRows.{NetRows}
use Rattle.journal_rules.specs.OnceNets.{IsOnceNet}
use Rattle.journal_rules.specs.SemaphoreRule.{takes, puts, max_of}
use Rattle.run_laws.specs.OneThreadValue.{source_of}

-- each task puts just what it takes, and each semaphore has a unit at first
pub record Returns (net : NetRows) : Type 0 where
  pub same : (s t : ℕ) → takes net s t ≡ puts net s t
  pub units : (s : ℕ) → s < length net.sems → 1 ≤ max_of net s

-- the net of a graph without conditions, whose tasks put just what they take
pub record IsGraph (net : NetRows) : Type 0 where
  pub plain : IsOnceNet net
  pub returns : Returns net
  pub from_tasks : (e : ℕ) → e < length net.edges → source_of net e < length net.tasks

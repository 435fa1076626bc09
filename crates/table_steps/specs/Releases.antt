-- By which causes a task may be released.
use Rattle.std.specs.Prelude.{◌≡◌, ◌≢◌, ℕ, ◌<◌, IsTrue, IsSomeAnd, [], length, slice_get}
use Rattle.task_graph.specs.NetRows.{NetRows}
use Rattle.task_graph.specs.Net.{IsSource, strong_in, is_weak}
use Rattle.task_graph.specs.declared.net.EdgeRow.{EdgeRow}
use Rattle.journal_rules.specs.declared.entry.Cause.{Cause}
use Rattle.journal_rules.specs.declared.entry.Cause.TheVariants.{Source, Strong, Weak}
use Rattle.journal_rules.specs.ShapeLegal.{CauseInRange}

-- a source by itself, a task with strong in-edges by these, and each task by a weak edge that leads to it
abbrev pub CanRelease : NetRows → ℕ → Cause → Type 0
CanRelease net t Source = IsSource net t
CanRelease net t Strong = strong_in net t ≢ []
CanRelease net t (Weak e) = IsTrue (is_weak net e) × IsSomeAnd (slice_get net.edges e) (λ (row : EdgeRow). row.to ≡ t)

-- The net has this task, and the cause can release it.
pub record MayBeReleased (net : NetRows) (t : ℕ) (cause : Cause) : Type 0 where
  pub in_tasks : t < length net.tasks
  pub in_range : CauseInRange net cause
  pub fits : CanRelease net t cause

use Rattle.std.proofs.Common.{ℕ, ◌<◌}
use Rattle.task_graph.specs.Net.{IsSource}
use Rattle.task_graph.proofs.sources.has_source.Given as goal

abbrev pub invariant-loop-task : goal.invariant-loop-task
invariant-loop-task l = (t : ℕ) → t < l.task → IsSource l.net t → ⊥

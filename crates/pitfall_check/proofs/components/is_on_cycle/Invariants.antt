use Rattle.std.proofs.Common.{ℕ, ◌<◌, get_or}
use Rattle.task_graph.specs.Net.{out_edges}
use Rattle.pitfall_check.specs.inside.Components.{StaysInComponent}
use Rattle.pitfall_check.proofs.components.is_on_cycle.Given as goal

abbrev pub invariant-loop-head : goal.invariant-loop-head
invariant-loop-head l = (k : ℕ) → k < l.head-index → StaysInComponent l.net l.components l.task (get_or (out_edges l.net l.task) k 0) → ⊥

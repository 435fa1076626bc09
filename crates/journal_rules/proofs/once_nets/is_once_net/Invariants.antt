use Rattle.std.proofs.Common.{◌≡◌, ℕ, ◌<◌, false}
use Rattle.task_graph.specs.Net.{is_weak}
use Rattle.journal_rules.specs.Counts.{first_tokens}
use Rattle.journal_rules.proofs.once_nets.is_once_net.Given as goal

abbrev pub invariant-loop-edge : goal.invariant-loop-edge
invariant-loop-edge l = (e : ℕ) → e < l.edge → (is_weak l.net e ≡ false) × (first_tokens l.net e ≡ 0)

use Rattle.std.proofs.Common.{ℕ, ◌<◌}
use Rattle.journal_rules.specs.inside.Releases.{WeakUsed}
use Rattle.journal_rules.proofs.releases.Releases.are_weak_edges_used.Given as goal

abbrev pub invariant-loop-edge : goal.invariant-loop-edge
invariant-loop-edge l = (e : ℕ) → e < l.edge → WeakUsed l.net l.self e

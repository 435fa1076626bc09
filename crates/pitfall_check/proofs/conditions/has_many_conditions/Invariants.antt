use Rattle.std.proofs.Common.{◌≡◌, ℕ, ◌<◌, get_or}
use Rattle.pitfall_check.specs.Pitfalls.{edge_from}
use Rattle.pitfall_check.proofs.conditions.has_many_conditions.Given as goal

abbrev pub invariant-loop-edge : goal.invariant-loop-edge
invariant-loop-edge l = (k : ℕ) → k < l.edge-index → edge_from l.net (get_or l.edges k 0) ≡ edge_from l.net (get_or l.edges 0 0)

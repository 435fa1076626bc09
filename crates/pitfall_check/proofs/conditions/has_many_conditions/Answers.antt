use Rattle.std.proofs.Common.{◌≡◌, ℕ, ◌<◌, length, get_or, subst, sym, arith}
use Rattle.std.specs.List.{All}
use Rattle.pitfall_check.specs.Pitfalls.{edge_from}
use Rattle.pitfall_check.proofs.EdgeLemmas.{weak_in_range, no_many_conditions}
use Rattle.pitfall_check.proofs.conditions.has_many_conditions.Goals as goal

pub edge_from-requires : goal.edge_from-requires
edge_from-requires c =
    let in_range = subst (All (λ e. e < length c.args.net.now.edges)) (sym c.weak_in-edges.ensures) (weak_in_range c.args.net.now c.args.task) in
    in_range c.loop-edge.edge-index 0 c.loop-edge-test.true

pub edge_from-requires-in-loop-edge : goal.edge_from-requires-in-loop-edge
edge_from-requires-in-loop-edge c =
    let in_range = subst (All (λ e. e < length c.args.net.now.edges)) (sym c.weak_in-edges.ensures) (weak_in_range c.args.net.now c.args.task) in
    in_range 0 0 (omega arith)

pub returns : goal.returns
returns c =
    let same = c.weak_in-edges.ensures in
    let each = subst (λ edges. (k : ℕ) → k < length edges → edge_from c.args.net.now (get_or edges k 0) ≡ edge_from c.args.net.now (get_or edges 0 0)) same (λ k below. c.loop-edge.invariant k (omega arith)) in
    (λ yes. absurd (cc), λ many. absurd (no_many_conditions c.args.net.now c.args.task each many))

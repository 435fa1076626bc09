use Rattle.std.proofs.Common.{ℕ, ◌<◌, length, get_or, sym, subst, arith}
use Rattle.std.specs.List.{All}
use Rattle.pitfall_check.proofs.StepLemmas.{edges_by_in_range}
use Rattle.pitfall_check.proofs.EndLemmas.{AddsEnds-none, AddsEnds-more, AddsEnds-all}
use Rattle.pitfall_check.proofs.ends_by_task.add_ends.Goals as goal

pub loop-edge-init : goal.loop-edge-init
loop-edge-init c = AddsEnds-none c.args.way c.args.net.now c.edges-edge-items.result.now c.args.ends.now.items

pub bounds-by_edge-edge : goal.bounds-by_edge-edge
bounds-by_edge-edge c =
    let below = subst (All (λ e. e < length c.args.net.now.edges)) (sym c.edges-edge-items.ensures) (edges_by_in_range c.args.way c.args.net.now c.args.task) c.loop-edge.edge-index 0 c.loop-edge-test.true in
    omega (arith, below, c.requires.by_edge.size)

pub loop-edge-preserved : goal.loop-edge-preserved
loop-edge-preserved c =
    let edges = c.edges-edge-items.result.now in
    let edge : ℕ = get_or edges c.loop-edge.edge-index 0 in
    let below = subst (All (λ e. e < length c.args.net.now.edges)) (sym c.edges-edge-items.ensures) (edges_by_in_range c.args.way c.args.net.now c.args.task) c.loop-edge.edge-index 0 c.loop-edge-test.true in
    rw c.in_ok-push.ensures.items (AddsEnds-more c.args.way c.args.net.now edges c.loop-edge.edge-index c.args.ends.now.items c.loop-edge.ends.items (get_or c.args.by_edge.now edge 0)
    c.loop-edge.invariant c.loop-edge-test.true (c.requires.by_edge.named edge below) (c.requires.by_edge.in_range edge below))

pub returns : goal.returns
returns c = AddsEnds-all c.args.way c.args.net.now c.args.task c.edges-edge-items.result.now c.loop-edge.edge-index c.args.ends.now.items c.loop-edge.ends.items c.edges-edge-items.ensures c.loop-edge-test.false c.loop-edge.invariant

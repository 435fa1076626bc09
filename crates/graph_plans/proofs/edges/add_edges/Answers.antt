use Rattle.std.proofs.Common.{◌≡◌, length, sym, ap}
use Rattle.graph_plans.proofs.EdgeLemmas.{among-at}
use Rattle.graph_plans.proofs.edges.add_edges.Goals as goal

pub add_edge-requires-clause-among : goal.add_edge-requires-clause-among
add_edge-requires-clause-among c =
    let tasks = length c.args.builder.now.tasks in
    let count : tasks ≡ length c.loop-edge.builder.tasks = ap (λ net. length net.tasks) (sym c.loop-edge.invariant) in
    rw (← count) (among-at tasks c.args.edges.now c.loop-edge.edge-index (record { from = 0; to = 0 }) c.loop-edge-test.true c.requires.among)

use Rattle.std.proofs.Common.{◌++◌, map, ap, ◌∙◌}
use Rattle.graph_plans.specs.PlanEdges.{edge_row}
use Rattle.graph_file.specs.PlanText.{edge_to}
use Rattle.graph_file.proofs.NetLemmas.{edges-more}
use Rattle.graph_file.proofs.nets.edges_of.Goals as goal

pub loop-from-preserved : goal.loop-from-preserved
loop-from-preserved c =
    let i = c.loop-from.from in
    let task = c.index-tasks-from.result in
    c.in_ok-put_edges.ensures ∙ ap (λ to. map edge_row c.loop-from.edges ++ map (edge_to i) to) c.as_slice.ensures
    ∙ edges-more c.args.tasks.now i task (map edge_row c.loop-from.edges) c.loop-from-test.true c.index-tasks-from.is c.loop-from.invariant

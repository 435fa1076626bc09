use Rattle.std.proofs.Common.{List, length, map, All, sym, ap, subst, ◌∙◌, arith}
use Rattle.std.proofs.lemmas.List.{length-map}
use Rattle.task_graph.specs.declared.net.EdgeRow.{EdgeRow}
use Rattle.graph_plans.specs.PlanEdges.{IsAmong, edge_row}
use Rattle.graph_generator.proofs.EdgeLemmas.{edges-all, edges-count}
use Rattle.graph_generator.proofs.OpLemmas.{ops-count}
use Rattle.graph_generator.proofs.generated.top_graph.Goals as goal

pub net_of-requires-clause-tasks : goal.net_of-requires-clause-tasks
net_of-requires-clause-tasks c =
    let are = c.as_slice.ensures ∙ c.in_ok-ops.ensures in
    omega (arith, ap length are, ops-count c.args.layers, c.requires.few)

pub net_of-requires-clause-edges : goal.net_of-requires-clause-edges
net_of-requires-clause-edges c =
    let are = ap (map edge_row) c.as_slice-2.ensures ∙ c.in_ok-edges.ensures in
    omega (arith, length-map c.as_slice-2.result.now edge_row, ap length are, edges-count c.args.layers c.requires.few)

pub net_of-requires-clause-among : goal.net_of-requires-clause-among
net_of-requires-clause-among c =
    let tasks = length c.as_slice.result.now in
    let count = ap length (c.as_slice.ensures ∙ c.in_ok-ops.ensures) ∙ ops-count c.args.layers in
    let are = ap (map edge_row) c.as_slice-2.ensures ∙ c.in_ok-edges.ensures in
    subst (λ (rows : List EdgeRow). All (IsAmong tasks) rows) (sym are) (edges-all (IsAmong tasks) c.args.layers (λ from_ to_ in_from in_to. record { from = omega (arith, count, in_from); to = omega (arith, count, in_to) }))

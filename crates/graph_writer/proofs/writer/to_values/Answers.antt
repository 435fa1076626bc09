use Rattle.std.proofs.Common.{◌≡◌, map, ap, ◌∙◌}
use Rattle.std.proofs.lemmas.List.{take_all}
use Rattle.serde_json.specs.Data.{string}
use Rattle.task_graph.specs.Net.{out_edges}
use Rattle.graph_plans.specs.PlanRows.{graph_rows}
use Rattle.graph_writer.specs.inside.Writer.{end_name}
use Rattle.graph_writer.proofs.WritingLemmas.{edge-within, ends-to}
use Rattle.graph_writer.proofs.writer.to_values.Goals as goal

pub end_value-requires-clause-within : goal.end_value-requires-clause-within
end_value-requires-clause-within c =
    edge-within (graph_rows c.args.graph.now) c.args.task c.loop-edge.edge-index c.out_edges-edge-items.result.now (c.out_edges-edge-items.ensures ∙ ap (λ net. out_edges net c.args.task) c.deref.ensures) c.loop-edge-test.true

pub returns : goal.returns
returns c =
    let shown : c.out_edges-edge-items.result.now ≡ out_edges (graph_rows c.args.graph.now).net c.args.task = c.out_edges-edge-items.ensures ∙ ap (λ net. out_edges net c.args.task) c.deref.ensures in
    c.loop-edge.invariant
    ∙ ap (λ es. map string (map (end_name (graph_rows c.args.graph.now)) es)) (take_all c.loop-edge.edge-index c.out_edges-edge-items.result.now c.loop-edge-test.false ∙ shown)
    ∙ ap (map string) (ends-to (graph_rows c.args.graph.now) c.args.task)

use Rattle.std.proofs.Common.{◌++◌, ap, sym, ◌∙◌}
use Rattle.graph_generator.specs.GeneratedPlan.{layer_edges}
use Rattle.graph_generator.proofs.DrawLemmas.{pieces-more}
use Rattle.graph_generator.proofs.edges.edges_of.Goals as goal

pub loop-task-preserved : goal.loop-task-preserved
loop-task-preserved c =
    let layers = c.args.layers in
    let task = c.loop-task.task in
    c.in_ok-add_layer_edges.ensures ∙ ap (λ edges. edges ++ layer_edges layers task) c.loop-task.invariant ∙ sym (pieces-more (layer_edges layers) task)

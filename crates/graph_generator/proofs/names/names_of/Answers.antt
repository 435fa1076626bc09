use Rattle.graph_generator.specs.GeneratedPlan.{layer_name}
use Rattle.graph_generator.proofs.DrawLemmas.{made-next}
use Rattle.graph_generator.proofs.names.names_of.Goals as goal

pub loop-task-preserved : goal.loop-task-preserved
loop-task-preserved c =
    made-next layer_name c.loop-task.task c.in_ok-layer_name.field-0 c.loop-task.names c.push.new.self c.loop-task.invariant c.in_ok-layer_name.ensures c.in_ok-push.ensures.ok

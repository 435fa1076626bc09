use Rattle.std.proofs.Common.{◌+◌, ◌*◌, ap, ◌∙◌, arith}
use Rattle.graph_generator.specs.GeneratedPlan.{layer_op, op_draw}
use Rattle.graph_generator.proofs.DrawLemmas.{draw-at, draws-length, made-next}
use Rattle.graph_generator.proofs.ops.ops_of.Goals as goal

pub bounds-draws-task : goal.bounds-draws-task
bounds-draws-task c =
    let count = draws-length c.args.layers (180 + 20 * c.args.layers) c.args.draws.now c.requires.draws in
    omega (arith, count, c.loop-task-test.true)

pub loop-task-preserved : goal.loop-task-preserved
loop-task-preserved c =
    let layers = c.args.layers in
    let task = c.loop-task.task in
    let drawn_here = draw-at layers (180 + 20 * layers) c.args.draws.now (180 + 2 * task) 0 (omega (arith, c.loop-task-test.true)) c.requires.draws in
    made-next (λ t. layer_op t (op_draw layers t)) task c.in_ok-layer_op.field-0 c.loop-task.ops c.push.new.self c.loop-task.invariant (c.in_ok-layer_op.ensures ∙ ap (layer_op task) drawn_here)
    c.in_ok-push.ensures.ok

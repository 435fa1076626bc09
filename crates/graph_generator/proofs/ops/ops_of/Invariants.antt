use Rattle.std.proofs.Common.{◌≡◌, map}
use Rattle.std.specs.List.{range_with_len}
use Rattle.graph_generator.specs.GeneratedPlan.{layer_op, op_draw}
use Rattle.graph_generator.proofs.ops.ops_of.Given as goal

abbrev pub invariant-loop-task : goal.invariant-loop-task
invariant-loop-task l = l.ops ≡ map (λ t. layer_op t (op_draw l.layers t)) (range_with_len 0 l.task)

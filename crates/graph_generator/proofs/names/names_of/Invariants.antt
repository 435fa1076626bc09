use Rattle.std.proofs.Common.{◌≡◌, map}
use Rattle.std.specs.List.{range_with_len}
use Rattle.graph_generator.specs.GeneratedPlan.{layer_name}
use Rattle.graph_generator.proofs.names.names_of.Given as goal

abbrev pub invariant-loop-task : goal.invariant-loop-task
invariant-loop-task l = l.names ≡ map layer_name (range_with_len 0 l.task)

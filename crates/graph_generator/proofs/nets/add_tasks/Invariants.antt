use Rattle.std.proofs.Common.{◌≡◌, [], map, take}
use Rattle.graph_generator.specs.GeneratedPlan.{generated_row}
use Rattle.graph_generator.proofs.nets.add_tasks.Given as goal

abbrev pub invariant-loop-op : goal.invariant-loop-op
invariant-loop-op l = l.builder ≡ record { tasks = map generated_row (take l.op-index l.ops); edges = []; sems = [] }

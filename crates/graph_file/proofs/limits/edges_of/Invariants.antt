use Rattle.std.proofs.Common.{◌≡◌, take}
use Rattle.graph_file.specs.PlanText.{edge_total}
use Rattle.graph_file.specs.inside.Counting.{capped}
use Rattle.graph_file.proofs.limits.edges_of.Given as goal

abbrev pub invariant-loop-task : goal.invariant-loop-task
invariant-loop-task l = l.edges ≡ capped (edge_total (take l.task-index l.numbers))

use Rattle.std.proofs.Common.{◌≡◌, take}
use Rattle.graph_file.specs.inside.Drafts.{with_sems}
use Rattle.graph_file.proofs.nets.add_semaphores.Given as goal

abbrev pub invariant-loop-max : goal.invariant-loop-max
invariant-loop-max l = l.builder ≡ with_sems (take l.max-index l.sems)

use Rattle.std.proofs.Common.{◌≡◌, [], take}
use Rattle.graph_file.specs.inside.Drafts.{net_with}
use Rattle.graph_file.proofs.nets.add_tasks.Given as goal

abbrev pub invariant-loop-number : goal.invariant-loop-number
invariant-loop-number l = l.builder ≡ net_with l.fn.builder.sems (take l.number l.ops) (take l.number l.tasks) []

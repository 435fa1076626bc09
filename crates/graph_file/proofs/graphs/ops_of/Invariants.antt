use Rattle.std.proofs.Common.{◌≡◌, map}
use Rattle.graph_file.specs.PlanText.{ops_of}
use Rattle.graph_drafts.specs.inside.Reading.{strings, task_text}
use Rattle.graph_file.proofs.graphs.ops_of.Given as goal

abbrev pub invariant-loop-task : goal.invariant-loop-task
invariant-loop-task l = l.ops ≡ ops_of (strings l.modules.names) (strings l.texts.names) (map task_text l.yielded)

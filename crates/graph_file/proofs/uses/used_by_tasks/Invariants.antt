use Rattle.std.proofs.Common.{◌≡◌, map, take}
use Rattle.graph_file.specs.PlanText.{used_by_tasks}
use Rattle.graph_drafts.specs.inside.Reading.{strings, task_text}
use Rattle.graph_file.proofs.uses.used_by_tasks.Given as goal

abbrev pub invariant-loop-task : goal.invariant-loop-task
invariant-loop-task l = l.used ≡ used_by_tasks (strings l.modules.names) (map task_text (take l.task-index l.tasks))

use Rattle.std.proofs.Common.{◌≡◌, map, take}
use Rattle.graph_drafts.specs.declared.draft.FileTask.{FileTask}
use Rattle.graph_drafts.specs.inside.Reading.{strings}
use Rattle.graph_file.proofs.lookups.names_of_tasks.Given as goal

abbrev pub invariant-loop-task : goal.invariant-loop-task
invariant-loop-task l = strings l.names ≡ map (λ (task : FileTask). task.names.name.now) (take l.task-index l.tasks)

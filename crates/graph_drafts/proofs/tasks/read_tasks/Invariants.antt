use Rattle.json_values.specs.inside.View.{view}
use Rattle.graph_drafts.specs.inside.Reading.{draft_rows}
use Rattle.graph_drafts.specs.inside.Reader.{add_task_steps}
use Rattle.graph_drafts.proofs.WalkLemmas.{GoesOn}
use Rattle.graph_drafts.proofs.tasks.read_tasks.Given as goal

abbrev pub invariant-loop-task : goal.invariant-loop-task
invariant-loop-task l = GoesOn view add_task_steps (draft_rows l.fn.draft) l.tasks l.task-index (draft_rows l.draft)

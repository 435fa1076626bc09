use Rattle.graph_file.specs.PlanText.{add_numbers}
use Rattle.graph_drafts.specs.inside.Reading.{draft_rows, strings, task_text}
use Rattle.graph_drafts.proofs.WalkLemmas.{GoesOn}
use Rattle.graph_file.proofs.numbers.add_all.Given as goal

abbrev pub invariant-loop-task : goal.invariant-loop-task
invariant-loop-task l = GoesOn task_text (add_numbers (strings l.modules.names) (draft_rows l.draft)) l.fn.numbers l.draft.tasks.items l.task-index l.numbers

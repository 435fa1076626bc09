use Rattle.graph_file.specs.PlanText.{add_pipeline}
use Rattle.graph_drafts.specs.inside.Reading.{task_text}
use Rattle.graph_drafts.proofs.WalkLemmas.{GoesOn}
use Rattle.graph_file.proofs.pipelines.check_graph.Given as goal

abbrev pub invariant-loop-task : goal.invariant-loop-task
invariant-loop-task l = GoesOn task_text (add_pipeline l.draft.scope) 0 l.draft.tasks.items l.task l.task

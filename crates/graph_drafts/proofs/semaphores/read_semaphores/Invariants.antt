use Rattle.json_values.specs.inside.View.{view}
use Rattle.graph_drafts.specs.FileText.{add_semaphore}
use Rattle.graph_drafts.specs.inside.Reading.{draft_rows}
use Rattle.graph_drafts.proofs.WalkLemmas.{GoesOn}
use Rattle.graph_drafts.proofs.semaphores.read_semaphores.Given as goal

abbrev pub invariant-loop-sem : goal.invariant-loop-sem
invariant-loop-sem l = GoesOn view add_semaphore (draft_rows l.fn.draft) l.sems l.sem-index (draft_rows l.draft)

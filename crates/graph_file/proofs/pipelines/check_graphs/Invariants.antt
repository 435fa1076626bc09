use Rattle.graph_file.specs.PlanText.{add_graph_pipelines}
use Rattle.graph_drafts.specs.inside.Reading.{draft_rows}
use Rattle.graph_drafts.proofs.WalkLemmas.{GoesOn}
use Rattle.graph_file.proofs.pipelines.check_graphs.Given as goal

abbrev pub invariant-loop-draft : goal.invariant-loop-draft
invariant-loop-draft l = GoesOn draft_rows add_graph_pipelines tt l.drafts l.draft-index tt

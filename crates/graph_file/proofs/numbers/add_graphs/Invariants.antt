use Rattle.graph_file.specs.PlanText.{add_graph_numbers}
use Rattle.graph_drafts.specs.inside.Reading.{draft_rows, strings}
use Rattle.graph_drafts.proofs.WalkLemmas.{GoesOn}
use Rattle.graph_file.proofs.numbers.add_graphs.Given as goal

abbrev pub invariant-loop-draft : goal.invariant-loop-draft
invariant-loop-draft l = GoesOn draft_rows (add_graph_numbers (strings l.modules.names)) l.fn.numbers.items l.drafts l.draft-index l.numbers.items

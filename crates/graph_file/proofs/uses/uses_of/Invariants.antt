use Rattle.std.proofs.Common.{◌≡◌, map, take}
use Rattle.graph_drafts.specs.declared.draft.Draft.{Draft}
use Rattle.graph_file.specs.PlanText.{used_by_tasks}
use Rattle.graph_drafts.specs.inside.Reading.{draft_rows, strings}
use Rattle.graph_file.proofs.uses.uses_of.Given as goal

abbrev pub invariant-loop-draft : goal.invariant-loop-draft
invariant-loop-draft l = l.uses ≡ map (λ (draft : Draft). used_by_tasks (strings l.modules.names) (draft_rows draft).tasks) (take l.draft-index l.drafts)

use Rattle.std.proofs.Common.{◌≡◌, map, take}
use Rattle.graph_drafts.specs.declared.draft.Draft.{Draft}
use Rattle.graph_drafts.specs.inside.Reading.{strings}
use Rattle.graph_file.proofs.lookups.names_of_graphs.Given as goal

abbrev pub invariant-loop-draft : goal.invariant-loop-draft
invariant-loop-draft l = strings l.names ≡ map (λ (draft : Draft). draft.name.now) (take l.draft-index l.drafts)

use Rattle.std.proofs.Common.{◌∙◌, map, ap}
use Rattle.std.proofs.lemmas.List.{take_all}
use Rattle.graph_drafts.specs.declared.draft.Draft.{Draft}
use Rattle.graph_file.specs.PlanText.{used_by_tasks}
use Rattle.graph_drafts.specs.inside.Reading.{draft_rows, strings}
use Rattle.graph_file.proofs.UseLemmas.{uses-shown}
use Rattle.graph_file.proofs.uses.uses_of.Goals as goal

pub returns : goal.returns
returns c =
    c.loop-draft.invariant
    ∙ ap (map (λ (draft : Draft). used_by_tasks (strings c.args.modules.now.names) (draft_rows draft).tasks)) (take_all c.loop-draft.draft-index c.as_slice-drafts.result.now c.loop-draft-test.false)
    ∙ uses-shown (strings c.args.modules.now.names) c.args.file.now c.as_slice-drafts.result.now c.as_slice-drafts.ensures.value c.requires.modules

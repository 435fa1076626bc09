use Rattle.std.proofs.Common.{◌≡◌, ap, subst, ◌∙◌}
use Rattle.std.specs.List.{position}
use Rattle.std.specs.Str.{bytes_eq}
use Rattle.graph_file.specs.PlanText.{task_names}
use Rattle.graph_drafts.specs.inside.Reading.{draft_rows, strings}
use Rattle.graph_file.specs.inside.Lookups.{OccurOnce}
use Rattle.graph_file.proofs.NumberLemmas.{names-drafted}
use Rattle.graph_file.proofs.numbers.numbers_in.Goals as goal

pub add_all-requires-clause-tasks : goal.add_all-requires-clause-tasks
add_all-requires-clause-tasks c q =
    let named : strings c.as_slice-2.result.now ≡ task_names (draft_rows c.args.draft.now) =
    ap strings c.as_slice-2.ensures ∙ c.in_ok-names.ensures ∙ names-drafted c.args.draft.now c.as_slice.result.now c.as_slice.ensures.value in
    c.in_ok-tasks.ensures.places q ∙ ap (position (bytes_eq q)) named

pub returns-clause-once : goal.returns-clause-once
returns-clause-once c once =
    let named : strings c.as_slice-2.result.now ≡ task_names (draft_rows c.args.draft.now) =
    ap strings c.as_slice-2.ensures ∙ c.in_ok-names.ensures ∙ names-drafted c.args.draft.now c.as_slice.result.now c.as_slice.ensures.value in
    subst OccurOnce named (c.in_ok-tasks.ensures.once once)

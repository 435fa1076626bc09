use Rattle.std.proofs.Common.{rules, ◌≡◌, ◌++◌, length, min, ap, ◌∙◌}
use Rattle.std.specs.Prelude.{IsTrue}
use Rattle.flow_run.proofs.WatchLemmas.{seen_by_team, unseen_rounds}
use Rattle.flow_run.proofs.workers.run_rounds.Goals as goal

pub returns-in-Ok-new-clause-watchers : goal.returns-in-Ok-new-clause-watchers
returns-in-Ok-new-clause-watchers g c =
    let taken = c.take_front.ensures in
    let front = c.take_front.result.items in
    let ran = c.rounds_by-ran in
    let few : length front ≡ min (length c.args.watchers.now.items) c.args.workers = search rules in
    seen_by_team _ c.args.workers (IsTrue ran.result.whole) ran.result.runs c.args.watchers.now.items c.put_front.new.items.items front c.take_front.new.items.items c.into_watchers.result.items
    _ _ taken.items few c.put_front.ensures c.in-Ok-new.ensures.watchers c.into_watchers.ensures ran.ensures.count ran.ensures.watchers

pub returns-clause-watchers : goal.returns-clause-watchers
returns-clause-watchers g c =
    let left = c.take_front.new.items.items in
    let back : c.in-Err.field-0.item.items ≡ c.take_front.result.items = search rules in
    unseen_rounds _ c.args.workers c.no_rounds-in-Err.result c.args.watchers.now.items c.put_front-in-Err.new.items.items c.no_rounds-in-Err.ensures
    (c.put_front-in-Err.ensures ∙ ap (λ xs. xs ++ left) back ∙ c.take_front.ensures.items)

use Rattle.std.proofs.Common.{◌<◌, Some, map, refl, sym, ap, ◌∙◌, subst}
use Rattle.std.specs.List.{AllByRecursion}
use Rattle.join_tables.specs.States.{TableState}
use Rattle.semaphore_park.specs.Parking.{YardKey, parked_on}
use Rattle.semaphore_turns.specs.WaitingTurns.{release_of}
use Rattle.semaphore_turns.specs.YardTurns.{Releases, releases_in}
use Rattle.semaphore_turns.specs.inside.RestTurns.{put_back}
use Rattle.semaphore_turns.proofs.RestLists.{these_length}
use Rattle.semaphore_turns.proofs.YardReleases.{drops_all, goes_first, length_released, releases_on, some_back}
use Rattle.semaphore_turns.proofs.settlement.go_on.Goals as goal

pub unreachable-requires : goal.unreachable-requires
unreachable-requires g c =
    let table = c.args.table.now in
    let turns = c.args.turns.rest.turns in
    let sems = c.args.turns.sems.items in
    let yard = releases_in c.args.yard.now in
    let free = c.in-Free.ensures in
    let sem = c.in-Free.sem in
    let whole = c.in_ok-park_again-in-Free.ensures.back ∙ (λ k. put_back table.table (free.2 k) (free.3 k) yard) in
    let count = sym (length_released c.args.yard.now.lists ∙ ap (λ (k : YardKey TableState). k.sems) c.requires.yard) in
    let below = subst (λ k. AllByRecursion (λ s. s < k) sems) count c.requires.rests.in_range in
    some_back table.table turns sems yard sem (these_length table.net turns sems c.requires.rests.take_these) below free.4 (ap (λ (y : Releases). parked_on y sem) (sym whole) ∙ releases_on c.park_again.new.yard sem ∙ ap (map release_of) (c.in_default.ensures.none.0 refl))

pub returns-in-Some-clause-leaves : goal.returns-in-Some-clause-leaves
returns-in-Some-clause-leaves g c =
    let table = c.args.table.now in
    let yard = releases_in c.args.yard.now in
    let free = c.in-Free.ensures in
    let whole = c.in_ok-park_again-in-Free.ensures.back ∙ (λ k. put_back table.table (free.2 k) (free.3 k) yard) in
    goes_first (put_back table.table c.args.turns.rest.turns c.args.turns.sems.items yard) c.park_again.new.yard c.wake_in.new.self c.in-Free.sem c.into_turn.result c.woken.result whole (sym c.wake_in.ensures.first ∙ c.in-Some.is ∙ ap Some (sym c.into_turn.ensures)) c.wake_in.ensures.rest c.woken.ensures

pub returns-in-Full-clause-leaves : goal.returns-in-Full-clause-leaves
returns-in-Full-clause-leaves g c =
    let table = c.args.table.now in
    let turns = c.args.turns.rest.turns in
    let sems = c.args.turns.sems.items in
    let count = sym (length_released c.args.yard.now.lists ∙ ap (λ (k : YardKey TableState). k.sems) c.requires.yard) in
    let below = subst (λ k. AllByRecursion (λ s. s < k) sems) count c.requires.rests.in_range in
    (drops_all table.table turns c.in-Full.turns.rest.turns sems (releases_in c.args.yard.now) c.drop_all.result.fate (these_length table.net turns sems c.requires.rests.take_these) below c.requires.all c.in-Full.ensures.3 c.drop_all.ensures.turns, c.requires.all)

use Rattle.std.proofs.Common.{◌<◌, refl, sym, ap, ◌∙◌, subst}
use Rattle.std.specs.List.{AllByRecursion}
use Rattle.join_tables.specs.Rests.{IsOfDrops}
use Rattle.join_tables.specs.States.{TableState}
use Rattle.semaphore_park.specs.Parking.{YardKey}
use Rattle.semaphore_turns.specs.Settlements.{DropsEach}
use Rattle.semaphore_turns.specs.YardTurns.{releases_in}
use Rattle.semaphore_turns.specs.inside.RestTurns.{IsLookAt, LeavesLook}
use Rattle.semaphore_turns.proofs.RestLists.{these_length}
use Rattle.semaphore_turns.proofs.YardReleases.{drops_all, length_released}
use Rattle.semaphore_turns.proofs.settlement.settle.Goals as goal

pub returns-in-Alone-default-true-clause-leaves : goal.returns-in-Alone-default-true-clause-leaves
returns-in-Alone-default-true-clause-leaves g c =
    let table = c.args.table.now in
    let n = table.table in
    let old = releases_in c.args.yard.now in
    let new = releases_in c.look_twice.new.yard in
    let turns = c.in-Alone-default-true.turns in
    let leaves = subst (λ look. LeavesLook table look old new) c.in-Alone-default-true.is c.in_ok-look_twice.ensures.leaves in
    let look = subst (λ look. IsLookAt table look) c.in-Alone-default-true.is c.in_ok-look_twice.ensures.look in
    let sems = sym (length_released c.look_twice.new.yard.lists ∙ ap (λ (k : YardKey TableState). k.sems) c.in_ok-look_twice.ensures.yard) in
    let below = subst (λ k. AllByRecursion (λ s. s < k) turns.sems.items) sems look.0.in_range in (
      subst (λ y. IsOfDrops c.drop_all.result.fate (DropsEach n y)) leaves.0
          (drops_all n turns.rest.turns turns.rest.turns turns.sems.items new c.drop_all.result.fate (these_length table.net turns.rest.turns turns.sems.items look.0.take_these) below leaves.1 refl c.drop_all.ensures.turns),
      leaves.1,
    )

use Rattle.std.proofs.Common.{◌<◌, [], length, sym, ap, subst, arith}
use Rattle.std.specs.List.{AllByRecursion}
use Rattle.join_tables.specs.RestStates.{RestState}
use Rattle.join_tables.specs.Rests.{IsOfTable}
use Rattle.semaphore_turns.specs.YardTurns.{releases_in}
use Rattle.semaphore_turns.specs.inside.RestTurns.{TakeThese}
use Rattle.semaphore_turns.proofs.YardReleases.{nothing_back}
use Rattle.semaphore_turns.proofs.rest_turns.take_parked.Goals as goal

pub loop-sem-init : goal.loop-sem-init
loop-sem-init g c =
    let is = c.in_ok-with_room.ensures in
    let table = c.args.table.now in
    let items = c.in_ok-with_capacity.ensures.items in
    let turns = ap (λ (r : RestState). r.turns) is in
    let sems = c.in_ok-with_capacity.field-0.items in
    record {
      yard = c.requires.yard;
      rests = record {
        table_is = subst (IsOfTable table.table) (sym (ap (λ (r : RestState). r.table) is)) tt;
        take_these = subst (λ ts. TakeThese table.net ts sems) (sym turns) (subst (TakeThese table.net []) (sym items) tt);
        in_range = subst (AllByRecursion (λ z. z < length table.net.sems)) (sym items) tt;
      };
      untouched = (ap (λ (r : RestState). r.alone) is, ap (λ (r : RestState). r.dropped) is);
      back = nothing_back table.table c.in_ok-with_room.field-0.turns sems (releases_in c.args.yard.now) (ap length turns);
      room = omega (arith, ap (λ (r : RestState). r.room) is, c.in_ok-with_capacity.ensures.capacity);
    }

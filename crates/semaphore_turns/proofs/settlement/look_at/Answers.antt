use Rattle.std.proofs.Common.{sym, ◌∙◌, arith}
use Rattle.semaphore_turns.specs.YardTurns.{releases_in}
use Rattle.semaphore_turns.proofs.YardReleases.{nothing_back}
use Rattle.semaphore_turns.proofs.settlement.look_at.Goals as goal

pub returns-then-len-eq0-clause-leaves : goal.returns-then-len-eq0-clause-leaves
returns-then-len-eq0-clause-leaves g c =
    let taken = c.in_ok-rest.field-0 in
    sym (nothing_back c.args.table.now.table taken.rest.turns taken.sems.items (releases_in c.take_parked.new.yard) (omega (arith, c.len.ensures, c.if-len-eq0.true))) ∙ c.in_ok-rest.ensures.back

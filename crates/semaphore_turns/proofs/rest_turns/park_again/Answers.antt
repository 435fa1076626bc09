use Rattle.std.proofs.Common.{◌≡◌, [], ◌∷◌, sym, ap, ◌∙◌, arith}
use Rattle.join_tables.specs.States.{TurnState}
use Rattle.semaphore_park.specs.Parking.{parked_on, with_parked}
use Rattle.semaphore_turns.specs.YardTurns.{releases_in}
use Rattle.semaphore_turns.specs.inside.RestTurns.{put_back}
use Rattle.semaphore_turns.proofs.RestLists.{these_length}
use Rattle.semaphore_turns.proofs.YardReleases.{empty_list, none_back, parked_again}
use Rattle.semaphore_turns.proofs.rest_turns.park_again.Goals as goal

pub loop-turns-preserved : goal.loop-turns-preserved
loop-turns-preserved g c =
    let i = c.loop-turns.invariant in
    let table = c.args.table.now in
    let out = c.pop-others.ensures in
    let yard = c.loop-turns.yard in
    let all = c.loop-turns.turns in
    let left = c.pop-others.result.0 in
    let sem = c.pop-others.result.1 in
    let turn = c.pop-others.result.2 in
    let yard_is = c.in_ok-park_first.ensures.ok ∙ ap (λ (t : TurnState). with_parked yard sem (t ∷ parked_on yard sem)) c.new.ensures in
    record {
      yard = c.park_first.ensures.key ∙ i.yard;
      rests = out.rests;
      undropped = out.undropped;
      back = parked_again table.table all.rest.turns left.rest.turns all.sems.items left.sems.items sem turn yard c.park_first.new.self (these_length table.net left.rest.turns left.sems.items out.rests.take_these) out.turns out.sems out.waits.table_is yard_is ∙ i.back;
    }

pub returns-clause-back : goal.returns-clause-back
returns-clause-back g c =
    let i = c.loop-turns.invariant in
    let n = c.args.table.now.table in
    let turns = c.loop-turns.turns.rest.turns in
    let yard = releases_in c.loop-turns.yard in
    let none : c.loop-turns.turns.sems.items ≡ [] = empty_list c.loop-turns.turns.sems.items (omega (arith, c.loop-turns.turns.sems.ok.0, c.len.ensures, c.loop-turns-test.false)) in
    sym (none_back n turns yard) ∙ ap (λ sems. put_back n turns sems yard) (sym none) ∙ i.back

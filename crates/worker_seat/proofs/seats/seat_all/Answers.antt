use Rattle.std.proofs.Common.{arith}
use Rattle.std.proofs.lemmas.Grind.{common_steps}
use Rattle.ready_deques.specs.Lists.{IsOwnerOf}
use Rattle.worker_seat.proofs.SeatingLemmas.{last_is, front_is, same_list, list_more, none_more, ready_more, watchers_next, watchers_end}
use Rattle.worker_seat.proofs.seats.seat_all.Goals as goal

pub loop-owner-preserved : goal.loop-owner-preserved
loop-owner-preserved g c = record {
  watchers = watchers_next _ _ _ _ _ _ _ _ c.loop-owner.invariant.watchers c.push_reserved.ensures.items c.new.ensures.watcher (grind (arith, common_steps)) c.remove.ensures.value c.remove.ensures.items;
  room = grind (arith, common_steps);
  owners = front_is (IsOwnerOf c.args.ready.now) _ _ _ c.loop-owner.invariant.owners c.in-Some.ensures.items;
  count = grind (arith, common_steps);
  list = list_more _ c.in-Some.owner _ _ _ c.loop-owner.invariant.list c.push_reserved.ensures.items c.new.ensures.state
      (same_list c.args.ready.now c.in-Some.owner (last_is (IsOwnerOf c.args.ready.now) _ _ _ c.loop-owner.invariant.owners c.in-Some.ensures.items));
  ready = ready_more c.in-Some.owner _ _ _ c.loop-owner.invariant.ready c.push_reserved.ensures.items c.new.ensures.state;
  away = none_more c.in-Some.owner _ _ _ c.loop-owner.invariant.away c.push_reserved.ensures.items c.new.ensures.state;
}

pub returns-clause-watchers : goal.returns-clause-watchers
returns-clause-watchers g c = watchers_end _ _ _ _ c.loop-owner.invariant.watchers (grind (arith, common_steps))

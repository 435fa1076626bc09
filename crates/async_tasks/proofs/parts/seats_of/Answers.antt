use Rattle.std.proofs.Common.{◌∙◌, ◌++◌, ap, length, None, refl}
use Rattle.std.specs.Arc.{arc_value}
use Rattle.std.specs.Option.{option_to_list}
use Rattle.ready_deques.specs.Lists.{IsOwnerOf}
use Rattle.async_tasks.specs.AsyncBooks.{IsNewSeatOf, async_seat_state}
use Rattle.async_tasks.proofs.Beginning.{moved, moved_length}
use Rattle.async_tasks.proofs.parts.seats_of.Goals as goal

pub loop-owner-preserved : goal.loop-owner-preserved
loop-owner-preserved g c =
    let from = c.pop.ensures.items ∙ ap (λ o. c.pop.new.self.items ++ option_to_list o) c.in-Some.is in
    let seat = async_seat_state c.in-Some.owner None in
    let both = moved (IsOwnerOf (arc_value c.args.ready.now)) (IsNewSeatOf (arc_value c.args.ready.now)) c.loop-owner.owners.items c.pop.new.self.items c.loop-owner.seats.items c.push.new.self.items c.in-Some.owner seat from c.in_ok-push.ensures.items
    (λ own. (own, refl)) c.loop-owner.invariant.0 c.loop-owner.invariant.1 in
    (both.0, both.1, moved_length c.loop-owner.owners.items c.pop.new.self.items c.loop-owner.seats.items c.push.new.self.items c.in-Some.owner seat (length c.args.owners.items) from c.in_ok-push.ensures.items c.loop-owner.invariant.2)

use Rattle.std.proofs.Common.{true, false, sym, ap, ◌∙◌, subst}
use Rattle.std.specs.Arc.{arc_value}
use Rattle.atomic_table.specs.Table.{rest}
use Rattle.table_steps.specs.Values.{given_parts, given_values, values_in, Knows}
use Rattle.table_steps.specs.declared.view.Lot.TheVariants.{Awaited, Taking, Fetched}
use Rattle.table_steps.specs.inside.Slots.{relot}
use Rattle.table_steps.specs.inside.SlotKinds.{tried, oldest, take_laid}
use Rattle.table_steps.proofs.Relotting.{relot_twice}
use Rattle.table_steps.proofs.Fetching.{holds_at, exchanged_twice, may_take_back, oldest_parts}
use Rattle.table_steps.proofs.Values.{knows_again, knows_oldest}
use Rattle.table_steps.proofs.words.Words.fetch.Goals as goal

pub lay_back-requires-clause-knows : goal.lay_back-requires-clause-knows
lay_back-requires-clause-knows g c =
    subst (λ l. Knows l (values_in c.take_oldest-oldest.new.self)) (sym c.exchange-parcels.ensures.values)
    (knows_oldest c.hold_slot.new.seat.values c.exchange-parcels.result c.take_oldest-oldest.result c.take_oldest-oldest.new.self c.take_oldest-oldest.ensures c.exchange-parcels.ensures.knows_lay).1

pub take_slot_back-requires-clause-ready : goal.take_slot_back-requires-clause-ready
take_slot_back-requires-clause-ready g c =
    let f = c.args.edge in let v = c.args.seat.now.me.0 in let y = c.exchange-parcels.result in let left = c.take_oldest-oldest.new.self in
    let mid = holds_at (arc_value c.args.self.now.net) given_parts true false f c.hold_slot.result c.args.seat.now.me c.hold_slot.new.seat.me y c.if-hold_slot-ne0.false c.hold_slot.ensures.view c.exchange-parcels.ensures.lay c.requires.home in
    let held = exchanged_twice f (tried true false f (given_parts y) 0 v) y c.new.result left c.hold_slot.new.seat.me c.exchange-parcels.new.seat.me c.lay_back.new.seat.me mid.0 c.exchange-parcels.ensures.view c.lay_back.ensures.view in
    may_take_back given_parts f v y left c.lay_back.new.seat.me c.requires.ready c.requires.free (oldest_parts y c.take_oldest-oldest.result left c.take_oldest-oldest.ensures).1 held

pub returns-clause-view : goal.returns-clause-view
returns-clause-view g c =
    let f = c.args.edge in let v = c.args.seat.now.me.0 in let y = c.exchange-parcels.result in let left = c.take_oldest-oldest.new.self in
    let mid = holds_at (arc_value c.args.self.now.net) given_parts true false f c.hold_slot.result c.args.seat.now.me c.hold_slot.new.seat.me y c.if-hold_slot-ne0.false c.hold_slot.ensures.view c.exchange-parcels.ensures.lay c.requires.home in
    let held = exchanged_twice f (tried true false f (given_parts y) 0 v) y c.new.result left c.hold_slot.new.seat.me c.exchange-parcels.new.seat.me c.lay_back.new.seat.me mid.0 c.exchange-parcels.ensures.view c.lay_back.ensures.view in
    let twice = relot_twice Awaited Taking Fetched (λ p. p) (λ p. oldest (given_parts y)) f v c.requires.free in
    let part = ap (λ q. relot Awaited Fetched (λ p. q) f v) (sym (oldest_parts y c.take_oldest-oldest.result left c.take_oldest-oldest.ensures).0) in
    (λ i. ((c.take_slot_back.ensures.view.0 ∙ ap (λ m. take_laid f m.0) held ∙ twice ∙ part) i, (c.take_slot_back.ensures.view.1 ∙ ap (λ m. rest m.1) held) i))

pub returns-clause-known : goal.returns-clause-known
returns-clause-known g c =
    knows_again _ _ _ c.take_slot_back.ensures.known (subst (λ l. Knows l c.args.seat.now.values) (sym (c.lay_back.ensures.values ∙ c.exchange-parcels.ensures.values)) c.hold_slot.ensures.known)

pub returns-clause-learnt : goal.returns-clause-learnt
returns-clause-learnt g c =
    knows_again _ _ _ c.take_slot_back.ensures.known (subst (λ l. Knows l (given_values c.take_oldest-oldest.result)) (sym (c.lay_back.ensures.values ∙ c.exchange-parcels.ensures.values))
    (knows_oldest c.hold_slot.new.seat.values c.exchange-parcels.result c.take_oldest-oldest.result c.take_oldest-oldest.new.self c.take_oldest-oldest.ensures c.exchange-parcels.ensures.knows_lay).0)

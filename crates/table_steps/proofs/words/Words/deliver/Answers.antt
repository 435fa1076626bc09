use Rattle.std.proofs.Common.{rules, ◌≡◌, true, ◌++◌, sym, ap, ◌∙◌, subst}
use Rattle.std.proofs.lemmas.List.{map-append}
use Rattle.std.specs.Arc.{arc_value}
use Rattle.atomic_table.specs.Table.{rest}
use Rattle.table_steps.specs.ParcelForms.{parcel_in}
use Rattle.table_steps.specs.Values.{given_part, given_parts, values_in, Knows}
use Rattle.table_steps.specs.declared.view.Lot.TheVariants.{Ours, Putting, Put}
use Rattle.table_steps.specs.inside.SlotKinds.{tried, put_laid}
use Rattle.table_steps.proofs.Relotting.{relot_twice}
use Rattle.table_steps.proofs.Fetching.{holds_at, exchanged_twice, may_put_back, fits_behind}
use Rattle.table_steps.proofs.Values.{knows_again, knows_appended}
use Rattle.table_steps.proofs.words.Words.deliver.Goals as goal

pub put-requires-clause-fits : goal.put-requires-clause-fits
put-requires-clause-fits g c =
    let y = c.exchange-parcels.result in
    let mid = holds_at (arc_value c.args.self.now.net) given_parts true true c.args.edge c.hold_slot.result c.args.seat.now.me c.hold_slot.new.seat.me y c.if-hold_slot-ne0.false c.hold_slot.ensures.view c.exchange-parcels.ensures.lay c.requires.home in
    (fits_behind (arc_value c.args.self.now.net) y c.args.parcel _ c.requires.parcel mid.1 mid.2 c.requires.room).0

pub put-requires-clause-few : goal.put-requires-clause-few
put-requires-clause-few g c =
    let y = c.exchange-parcels.result in
    let mid = holds_at (arc_value c.args.self.now.net) given_parts true true c.args.edge c.hold_slot.result c.args.seat.now.me c.hold_slot.new.seat.me y c.if-hold_slot-ne0.false c.hold_slot.ensures.view c.exchange-parcels.ensures.lay c.requires.home in
    (fits_behind (arc_value c.args.self.now.net) y c.args.parcel _ c.requires.parcel mid.1 mid.2 c.requires.room).1

pub exchange-requires-clause-knows : goal.exchange-requires-clause-knows
exchange-requires-clause-knows g c =
    let all : c.put.new.self ≡ c.exchange-parcels.result ++ parcel_in c.args.parcel = search rules in
    let known = knows_appended c.hold_slot.new.seat.values c.exchange-parcels.result (parcel_in c.args.parcel) c.exchange-parcels.ensures.knows_lay (knows_again _ _ _ c.hold_slot.ensures.known c.requires.knows) in
    subst (λ l. Knows l (values_in c.put.new.self)) (sym c.exchange-parcels.ensures.values) (subst (λ l. Knows c.hold_slot.new.seat.values (values_in l)) (sym all) known)

pub put_slot_back-requires-clause-ready : goal.put_slot_back-requires-clause-ready
put_slot_back-requires-clause-ready g c =
    let f = c.args.edge in let v = c.args.seat.now.me.0 in let y = c.exchange-parcels.result in let more = c.put.new.self in
    let all : more ≡ y ++ parcel_in c.args.parcel = search rules in
    let mid = holds_at (arc_value c.args.self.now.net) given_parts true true f c.hold_slot.result c.args.seat.now.me c.hold_slot.new.seat.me y c.if-hold_slot-ne0.false c.hold_slot.ensures.view c.exchange-parcels.ensures.lay c.requires.home in
    let held = exchanged_twice f (tried true true f (given_parts y) 0 v) y c.new.result more c.hold_slot.new.seat.me c.exchange-parcels.new.seat.me c.exchange.new.seat.me mid.0 c.exchange-parcels.ensures.view c.exchange.ensures.view in
    may_put_back given_parts f v y more c.exchange.new.seat.me c.requires.ready c.requires.free (ap given_parts all ∙ map-append given_part y (parcel_in c.args.parcel) ∙ ap (λ l. given_parts y ++ l) c.requires.parcel) held

pub returns-clause-view : goal.returns-clause-view
returns-clause-view g c =
    let f = c.args.edge in let v = c.args.seat.now.me.0 in let y = c.exchange-parcels.result in let more = c.put.new.self in
    let mid = holds_at (arc_value c.args.self.now.net) given_parts true true f c.hold_slot.result c.args.seat.now.me c.hold_slot.new.seat.me y c.if-hold_slot-ne0.false c.hold_slot.ensures.view c.exchange-parcels.ensures.lay c.requires.home in
    let held = exchanged_twice f (tried true true f (given_parts y) 0 v) y c.new.result more c.hold_slot.new.seat.me c.exchange-parcels.new.seat.me c.exchange.new.seat.me mid.0 c.exchange-parcels.ensures.view c.exchange.ensures.view in
    let twice = relot_twice Ours Putting Put (λ p. p) (λ p. p) f v c.requires.free in
    (λ i. ((c.put_slot_back.ensures.view.0 ∙ ap (λ m. put_laid f m.0) held ∙ twice) i, (c.put_slot_back.ensures.view.1 ∙ ap (λ m. rest m.1) held) i))

pub returns-clause-known : goal.returns-clause-known
returns-clause-known g c =
    knows_again _ _ _ c.put_slot_back.ensures.known (subst (λ l. Knows l c.args.seat.now.values) (sym (c.exchange.ensures.values ∙ c.exchange-parcels.ensures.values)) c.hold_slot.ensures.known)

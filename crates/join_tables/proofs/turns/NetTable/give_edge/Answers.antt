use Rattle.std.proofs.Common.{◌≡◌, [], ◌∷◌, sym, ap, ◌∙◌, subst}
use Rattle.std.specs.Arc.{arc_value}
use Rattle.table_steps.specs.Values.{Knows}
use Rattle.table_steps.proofs.Values.{knows_again}
use Rattle.table_steps.specs.declared.view.Lot.TheVariants.{Ours, Putting, Put}
use Rattle.table_steps.specs.inside.Slots.{lot, slot_weigh, relot}
use Rattle.table_steps.specs.inside.SlotKinds.{MayTryPut, lot_part}
use Rattle.join_tables.specs.inside.Seated.{OwesToken, paid_token}
use Rattle.join_tables.proofs.Turning.{may_deliver}
use Rattle.join_tables.proofs.turns.NetTable.give_edge.Goals as goal

pub deliver-requires-clause-ready : goal.deliver-requires-clause-ready
deliver-requires-clause-ready g c =
    let m = may_deliver (arc_value c.self.inside.words.net) c.args.edge c.args.place c.args.seat.now.me.0 c.requires.ready c.learn.ensures.fits in
    subst (λ v. MayTryPut c.args.edge v) (sym c.learn.ensures.view.0) m.may

pub deliver-requires-clause-free : goal.deliver-requires-clause-free
deliver-requires-clause-free g c =
    let m = may_deliver (arc_value c.self.inside.words.net) c.args.edge c.args.place c.args.seat.now.me.0 c.requires.ready c.learn.ensures.fits in
    ap (slot_weigh (lot Putting c.args.edge)) c.learn.ensures.view.0 ∙ m.free

pub deliver-requires-clause-in_range : goal.deliver-requires-clause-in_range
deliver-requires-clause-in_range g c =
    let m = may_deliver (arc_value c.self.inside.words.net) c.args.edge c.args.place c.args.seat.now.me.0 c.requires.ready c.learn.ensures.fits in m.below

pub deliver-requires-clause-parcel : goal.deliver-requires-clause-parcel
deliver-requires-clause-parcel g c =
    let m = may_deliver (arc_value c.self.inside.words.net) c.args.edge c.args.place c.args.seat.now.me.0 c.requires.ready c.learn.ensures.fits in
    (c.take.ensures.taken c.requires.knows.value c.requires.knows.are).part ∙ ap (λ p. p ∷ []) (sym (ap (lot_part Ours c.args.edge) c.learn.ensures.view.0 ∙ m.part))

pub deliver-requires-clause-knows : goal.deliver-requires-clause-knows
deliver-requires-clause-knows g c =
    knows_again _ _ _ c.learn.ensures.known (subst (λ l. Knows c.args.seat.now.values l) (sym (c.take.ensures.taken c.requires.knows.value c.requires.knows.are).has) c.requires.knows.knows)

pub give_token-requires-clause-ready : goal.give_token-requires-clause-ready
give_token-requires-clause-ready g c =
    let m = may_deliver (arc_value c.self.inside.words.net) c.args.edge c.args.place c.args.seat.now.me.0 c.requires.ready c.learn.ensures.fits in
    let view : c.deliver.new.seat.me.0 ≡ relot Ours Put (λ p. p) c.args.edge c.args.seat.now.me.0 = ap (λ m. m.0) c.deliver.ensures.view ∙ ap (relot Ours Put (λ p. p) c.args.edge) c.learn.ensures.view.0 in
    subst (λ v. OwesToken c.args.edge v) (sym view) m.token

pub returns-clause-view : goal.returns-clause-view
returns-clause-view g c =
    let m = may_deliver (arc_value c.self.inside.words.net) c.args.edge c.args.place c.args.seat.now.me.0 c.requires.ready c.learn.ensures.fits in
    let view : c.deliver.new.seat.me.0 ≡ relot Ours Put (λ p. p) c.args.edge c.args.seat.now.me.0 = ap (λ m. m.0) c.deliver.ensures.view ∙ ap (relot Ours Put (λ p. p) c.args.edge) c.learn.ensures.view.0 in
    c.give_token.ensures.view ∙ (λ i. ((ap paid_token view ∙ m.pays) i, []))

use Rattle.std.proofs.Common.{rules, length, arith, ◌≡◌, ◌≢◌, ◌∷◌, ◌++◌, Some, sym, ap, ◌∙◌, subst, map, reverse}
use Rattle.std.specs.Prelude.{[]}
use Rattle.std.specs.Option.{option_map_or}
use Rattle.std.specs.Arc.{arc_value}
use Rattle.table_steps.proofs.Values.{knows_none, knows_again}
use Rattle.join_tables.proofs.Knowing.{knows_left}
use Rattle.join_tables.specs.States.{TableState}
use Rattle.join_tables.specs.Keeping.{drop_of, entries_of}
use Rattle.join_tables.specs.declared.fates.Fate.TheVariants.{AllDropped}
use Rattle.std.proofs.lemmas.List.{map-append, length-map, length_push}
use Rattle.join_tables.specs.Inputs.{parts_found}
use Rattle.join_tables.specs.RestStates.{RestState, rest_with}
use Rattle.join_tables.specs.Rests.{MayDropOf}
use Rattle.table_steps.specs.inside.Kinds.{left_by}
use Rattle.join_tables.specs.inside.Seated.{IsSpent}
use Rattle.table_steps.specs.inside.RestKinds.{MayThin, last_dropped}
use Rattle.join_tables.specs.inside.Resting.{RestParts, alone_in, full_in, IsRestView}
use Rattle.join_tables.proofs.RestViews.{held_in}
use Rattle.join_tables.proofs.RestDrops.{drops_one, may_drop_as}
use Rattle.join_tables.proofs.turns.NetTable.rest_drop.Goals as goal

pub draw_last_drop-place-requires-clause-ready : goal.draw_last_drop-place-requires-clause-ready
draw_last_drop-place-requires-clause-ready g c =
    let drops = c.rest.inside.drops.items in let v = c.in-Some.seat.me.0 in let left = c.pop.new.self.items in let p = c.in-Some-pop.field-0 in let net = arc_value c.self.inside.words.net in
    let holds = held_in _ c.rest.inside.seat c.in-Some.seat c.rest.invariant.0 c.in-Some.is in
    let may : MayDropOf net c.args.rest c.args.why = subst (λ (t : TableState). MayDropOf t.net c.args.rest c.args.why) (sym c.self.view_is) c.requires.why in
    let alone : c.args.rest.alone ≡ alone_in v = sym (ap (λ (r : RestState). r.alone) c.rest.view_is) ∙ ap (λ o. alone_in (option_map_or (λ s. s.me.0) o [])) c.in-Some.is in
    let full : c.args.rest.full ≡ full_in v = sym (ap (λ (r : RestState). r.full) c.rest.view_is) ∙ ap (λ o. full_in (option_map_or (λ s. s.me.0) o [])) c.in-Some.is in
    let turns : c.args.rest.turns ≡ left ++ p ∷ [] = sym (ap (λ (r : RestState). r.turns) c.rest.view_is) ∙ c.in-Some-pop.ensures.items in
    let one = drops_one g.row.V.Denot net c.args.why c.rest.inside.turns.items p left drops v holds.0 c.in-Some-pop.ensures.items (may_drop_as net c.args.rest c.args.why (alone_in v) (full_in v) left p may alone full turns) in
    one.may

pub invariant_of-result : goal.invariant_of-result
invariant_of-result g c =
    let drops = c.rest.inside.drops.items in let v = c.in-Some.seat.me.0 in let left = c.pop.new.self.items in let p = c.in-Some-pop.field-0 in let net = arc_value c.self.inside.words.net in
    let holds = held_in _ c.rest.inside.seat c.in-Some.seat c.rest.invariant.0 c.in-Some.is in
    let may : MayDropOf net c.args.rest c.args.why = subst (λ (t : TableState). MayDropOf t.net c.args.rest c.args.why) (sym c.self.view_is) c.requires.why in
    let alone : c.args.rest.alone ≡ alone_in v = sym (ap (λ (r : RestState). r.alone) c.rest.view_is) ∙ ap (λ o. alone_in (option_map_or (λ s. s.me.0) o [])) c.in-Some.is in
    let full : c.args.rest.full ≡ full_in v = sym (ap (λ (r : RestState). r.full) c.rest.view_is) ∙ ap (λ o. full_in (option_map_or (λ s. s.me.0) o [])) c.in-Some.is in
    let turns : c.args.rest.turns ≡ left ++ p ∷ [] = sym (ap (λ (r : RestState). r.turns) c.rest.view_is) ∙ c.in-Some-pop.ensures.items in
    let one = drops_one g.row.V.Denot net c.args.why c.rest.inside.turns.items p left drops v holds.0 c.in-Some-pop.ensures.items (may_drop_as net c.args.rest c.args.why (alone_in v) (full_in v) left p may alone full turns) in
    let none : left ≡ [] = search rules in
    let entries = ap (λ ds. map drop_of (reverse ds)) c.push_reserved.ensures.items in
    (subst (λ u. IsSpent (entries_of {V = g.row.V.Denot} (AllDropped c.push_reserved.new.self)) u) (sym c.draw_last_drop-place.ensures.view.0) (one.spent c.draw_last_drop-place.result (AllDropped c.push_reserved.new.self) none entries), c.draw_last_drop-place.ensures.view.1 ∙ holds.1, knows_none _)

pub thin-requires-clause-ready : goal.thin-requires-clause-ready
thin-requires-clause-ready g c =
    let drops = c.rest.inside.drops.items in let v = c.in-Some.seat.me.0 in let left = c.pop.new.self.items in let p = c.in-Some-pop.field-0 in let net = arc_value c.self.inside.words.net in
    let holds = held_in _ c.rest.inside.seat c.in-Some.seat c.rest.invariant.0 c.in-Some.is in
    let may : MayDropOf net c.args.rest c.args.why = subst (λ (t : TableState). MayDropOf t.net c.args.rest c.args.why) (sym c.self.view_is) c.requires.why in
    let alone : c.args.rest.alone ≡ alone_in v = sym (ap (λ (r : RestState). r.alone) c.rest.view_is) ∙ ap (λ o. alone_in (option_map_or (λ s. s.me.0) o [])) c.in-Some.is in
    let full : c.args.rest.full ≡ full_in v = sym (ap (λ (r : RestState). r.full) c.rest.view_is) ∙ ap (λ o. full_in (option_map_or (λ s. s.me.0) o [])) c.in-Some.is in
    let turns : c.args.rest.turns ≡ left ++ p ∷ [] = sym (ap (λ (r : RestState). r.turns) c.rest.view_is) ∙ c.in-Some-pop.ensures.items in
    let one = drops_one g.row.V.Denot net c.args.why c.rest.inside.turns.items p left drops v holds.0 c.in-Some-pop.ensures.items (may_drop_as net c.args.rest c.args.why (alone_in v) (full_in v) left p may alone full turns) in
    let some_there : left ≢ [] = search rules in
    subst MayThin (sym c.draw_last_drop-place.ensures.view.0) (one.thins c.draw_last_drop-place.result some_there)

pub invariant_of-result-2 : goal.invariant_of-result-2
invariant_of-result-2 g c =
    let drops = c.rest.inside.drops.items in let v = c.in-Some.seat.me.0 in let left = c.pop.new.self.items in let p = c.in-Some-pop.field-0 in let net = arc_value c.self.inside.words.net in
    let holds = held_in _ c.rest.inside.seat c.in-Some.seat c.rest.invariant.0 c.in-Some.is in
    let may : MayDropOf net c.args.rest c.args.why = subst (λ (t : TableState). MayDropOf t.net c.args.rest c.args.why) (sym c.self.view_is) c.requires.why in
    let alone : c.args.rest.alone ≡ alone_in v = sym (ap (λ (r : RestState). r.alone) c.rest.view_is) ∙ ap (λ o. alone_in (option_map_or (λ s. s.me.0) o [])) c.in-Some.is in
    let full : c.args.rest.full ≡ full_in v = sym (ap (λ (r : RestState). r.full) c.rest.view_is) ∙ ap (λ o. full_in (option_map_or (λ s. s.me.0) o [])) c.in-Some.is in
    let turns : c.args.rest.turns ≡ left ++ p ∷ [] = sym (ap (λ (r : RestState). r.turns) c.rest.view_is) ∙ c.in-Some-pop.ensures.items in
    let one = drops_one g.row.V.Denot net c.args.why c.rest.inside.turns.items p left drops v holds.0 c.in-Some-pop.ensures.items (may_drop_as net c.args.rest c.args.why (alone_in v) (full_in v) left p may alone full turns) in
    let some_there : left ≢ [] = search rules in
    let view : c.thin.new.seat.me.0 ≡ left_by (last_dropped c.args.why c.draw_last_drop-place.result v) = c.thin.ensures.view.0 ∙ ap left_by c.draw_last_drop-place.ensures.view.0 in
    let left_parts : RestParts (map parts_found c.pop-2.new.self.items) (left_by (last_dropped c.args.why c.draw_last_drop-place.result v)) =
    one.parts c.draw_last_drop-place.result (map parts_found c.pop-2.new.self.items) (parts_found c.in-Some-pop-2._inputs)
    (length-map c.pop-2.new.self.items parts_found ∙ omega (arith, c.rest.invariant.5, ap length c.in-Some-pop-2.ensures.items, ap length c.in-Some-pop.ensures.items, length_push c.pop-2.new.self.items c.in-Some-pop-2._inputs, length_push left p))
    (subst (λ fs. RestParts fs v) (ap (map parts_found) c.in-Some-pop-2.ensures.items ∙ map-append parts_found c.pop-2.new.self.items (c.in-Some-pop-2._inputs ∷ [])) holds.3) in
    let two = knows_left _ c.rest.inside.parts.items c.pop-2.new.self.items c.in-Some-pop-2._inputs c.in-Some-pop-2.ensures.items (held_in _ c.rest.inside.seat c.in-Some.seat c.rest.invariant.7 c.in-Some.is) in
    let kept = subst (λ ds. IsRestView left ds (left_by (last_dropped c.args.why c.draw_last_drop-place.result v))) (sym c.push_reserved.ensures.items) (one.rest c.draw_last_drop-place.result) in
    ((subst (λ u. IsRestView left c.push_reserved.new.self.items u) (sym view) kept, c.thin.ensures.view.1 ∙ c.draw_last_drop-place.ensures.view.1 ∙ holds.1, some_there, subst (λ u. RestParts (map parts_found c.pop-2.new.self.items) u) (sym view) left_parts), tt, search rules, search rules, search rules, search rules, search rules, knows_again _ _ _ c.thin.ensures.known (knows_again _ _ _ c.draw_last_drop-place.ensures.known two.0))

pub returns : goal.returns
returns g c =
    let drops = c.rest.inside.drops.items in let v = c.in-Some.seat.me.0 in let left = c.pop.new.self.items in let p = c.in-Some-pop.field-0 in let net = arc_value c.self.inside.words.net in
    let holds = held_in _ c.rest.inside.seat c.in-Some.seat c.rest.invariant.0 c.in-Some.is in
    let may : MayDropOf net c.args.rest c.args.why = subst (λ (t : TableState). MayDropOf t.net c.args.rest c.args.why) (sym c.self.view_is) c.requires.why in
    let alone : c.args.rest.alone ≡ alone_in v = sym (ap (λ (r : RestState). r.alone) c.rest.view_is) ∙ ap (λ o. alone_in (option_map_or (λ s. s.me.0) o [])) c.in-Some.is in
    let full : c.args.rest.full ≡ full_in v = sym (ap (λ (r : RestState). r.full) c.rest.view_is) ∙ ap (λ o. full_in (option_map_or (λ s. s.me.0) o [])) c.in-Some.is in
    let turns : c.args.rest.turns ≡ left ++ p ∷ [] = sym (ap (λ (r : RestState). r.turns) c.rest.view_is) ∙ c.in-Some-pop.ensures.items in
    let one = drops_one g.row.V.Denot net c.args.why c.rest.inside.turns.items p left drops v holds.0 c.in-Some-pop.ensures.items (may_drop_as net c.args.rest c.args.why (alone_in v) (full_in v) left p may alone full turns) in
    let some_there : left ≢ [] = search rules in
    let view : c.thin.new.seat.me.0 ≡ left_by (last_dropped c.args.why c.draw_last_drop-place.result v) = c.thin.ensures.view.0 ∙ ap left_by c.draw_last_drop-place.ensures.view.0 in
    let table : c.thin.new.seat.table_id ≡ c.args.self.now.table = search rules in
    let alone_is : alone_in c.thin.new.seat.me.0 ≡ c.args.rest.alone = ap alone_in view ∙ one.alone c.draw_last_drop-place.result ∙ sym alone in
    let full_is : full_in c.thin.new.seat.me.0 ≡ c.args.rest.full = ap full_in view ∙ one.full c.draw_last_drop-place.result ∙ sym full in
    let now : c.thin.new.seat.found ≡ c.args.rest.found = c.thin.ensures.found ∙ c.draw_last_drop-place.ensures.found ∙ sym (ap (λ o. option_map_or (λ s. s.found) o []) c.in-Some.is) ∙ ap (λ (r : RestState). r.found) c.rest.view_is in (
      λ i. rest_with (Some (table i)) (c.rest.view_is i).room left c.push_reserved.new.self.items (alone_is i) (full_is i) (now i),
      record { last = p; place = c.draw_last_drop-place.result; turns_are = turns; dropped_are = c.push_reserved.ensures.items ∙ ap (λ (r : RestState). r.dropped ++ record { task = p.task; cause = p.cause; place = c.draw_last_drop-place.result; why = c.args.why } ∷ []) c.rest.view_is },
      some_there,
    )

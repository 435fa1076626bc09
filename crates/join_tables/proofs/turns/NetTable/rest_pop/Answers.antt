use Rattle.std.proofs.Common.{◌∷◌, length, map, rules, ◌≡◌, sym, ap, ◌∙◌, subst}
use Rattle.std.specs.Prelude.{[]}
use Rattle.std.specs.Option.{option_map_or}
use Rattle.table_steps.specs.Values.{Knows, values_in}
use Rattle.join_tables.specs.Values.{found_values}
use Rattle.join_tables.proofs.Knowing.{knows_left}
use Rattle.join_tables.specs.States.{turn_with}
use Rattle.std.proofs.lemmas.List.{map-append}
use Rattle.join_tables.specs.Inputs.{given_in, parts_found}
use Rattle.join_tables.specs.RestStates.{RestState, rest_with}
use Rattle.join_tables.specs.inside.Seated.{turn_view, taken_in, refusal_of, held_of}
use Rattle.table_steps.specs.inside.RestKinds.{handed_out, left_behind}
use Rattle.join_tables.specs.inside.Resting.{RestParts, alone_in, full_in, IsRestView}
use Rattle.join_tables.proofs.RestViews.{held_in, hands_one, left_seat, left_known, left_is, left_is_so, left_table, left_found}
use Rattle.join_tables.proofs.turns.NetTable.rest_pop.Goals as goal

pub hand_out-own-requires-clause-ready : goal.hand_out-own-requires-clause-ready
hand_out-own-requires-clause-ready g c =
    let turns = c.rest.inside.turns.items in let drops = c.rest.inside.drops.items in let v = c.in-Some.seat.me.0 in let left = c.pop.new.self.items in
    let holds = held_in _ c.rest.inside.seat c.in-Some.seat c.rest.invariant.0 c.in-Some.is in
    let none : drops ≡ [] = ap (λ (r : RestState). r.dropped) c.rest.view_is ∙ c.requires.undropped in
    let one = hands_one turns left c.in-Some-pop.field-0 (map parts_found c.rest.inside.parts.items) (map parts_found c.pop-2.new.self.items) (parts_found c.in-Some-pop-2.inputs) v (subst (λ ds. IsRestView turns ds v) none holds.0) holds.3 c.in-Some-pop.ensures.items (ap (map parts_found) c.in-Some-pop-2.ensures.items ∙ map-append parts_found c.pop-2.new.self.items (c.in-Some-pop-2.inputs ∷ [])) in
    one.may

pub invariant_of-rest : goal.invariant_of-rest
invariant_of-rest g c =
    let turns = c.rest.inside.turns.items in let drops = c.rest.inside.drops.items in let v = c.in-Some.seat.me.0 in let left = c.pop.new.self.items in
    let holds = held_in _ c.rest.inside.seat c.in-Some.seat c.rest.invariant.0 c.in-Some.is in
    let none : drops ≡ [] = ap (λ (r : RestState). r.dropped) c.rest.view_is ∙ c.requires.undropped in
    let one = hands_one turns left c.in-Some-pop.field-0 (map parts_found c.rest.inside.parts.items) (map parts_found c.pop-2.new.self.items) (parts_found c.in-Some-pop-2.inputs) v (subst (λ ds. IsRestView turns ds v) none holds.0) holds.3 c.in-Some-pop.ensures.items (ap (map parts_found) c.in-Some-pop-2.ensures.items ∙ map-append parts_found c.pop-2.new.self.items (c.in-Some-pop-2.inputs ∷ [])) in
    let view : c.hand_out-own.new.seat.me.0 ≡ left_behind v = ap (λ m. m.0) c.hand_out-own.ensures.view.0 in
    let kept = subst (λ ds. IsRestView left ds c.hand_out-own.new.seat.me.0) (sym none) (subst (λ u. IsRestView left [] u) (sym view) one.rest) in
    let r = left_seat (λ s. IsRestView left drops s.me.0) (λ s. s.me.1 ≡ []) (λ s. RestParts (map parts_found c.pop-2.new.self.items) s.me.0) (drops ≡ []) left c.seat_with.result c.hand_out-own.new.seat c.seat_with.ensures.none c.seat_with.ensures.some kept (ap (λ m. m.1) c.hand_out-own.ensures.view.0 ∙ holds.1) (subst (λ u. RestParts (map parts_found c.pop-2.new.self.items) u) (sym view) one.parts_left) none in
    let two = knows_left _ c.rest.inside.parts.items c.pop-2.new.self.items c.in-Some-pop-2.inputs c.in-Some-pop-2.ensures.items (held_in _ c.rest.inside.seat c.in-Some.seat c.rest.invariant.7 c.in-Some.is) in
    let known = left_is_so (λ s. Knows s.values (found_values c.pop-2.new.self.items)) left c.seat_with.result c.hand_out-own.new.seat c.seat_with.ensures.none c.seat_with.ensures.some (subst (λ l. Knows l (found_values c.pop-2.new.self.items)) (sym c.hand_out-own.ensures.values.0) two.0) in
    (r.0, r.1, search rules, search rules, search rules, search rules, search rules, known)

pub invariant_of-turn : goal.invariant_of-turn
invariant_of-turn g c =
    let turns = c.rest.inside.turns.items in let drops = c.rest.inside.drops.items in let v = c.in-Some.seat.me.0 in let left = c.pop.new.self.items in
    let holds = held_in _ c.rest.inside.seat c.in-Some.seat c.rest.invariant.0 c.in-Some.is in
    let none : drops ≡ [] = ap (λ (r : RestState). r.dropped) c.rest.view_is ∙ c.requires.undropped in
    let one = hands_one turns left c.in-Some-pop.field-0 (map parts_found c.rest.inside.parts.items) (map parts_found c.pop-2.new.self.items) (parts_found c.in-Some-pop-2.inputs) v (subst (λ ds. IsRestView turns ds v) none holds.0) holds.3 c.in-Some-pop.ensures.items (ap (map parts_found) c.in-Some-pop-2.ensures.items ∙ map-append parts_found c.pop-2.new.self.items (c.in-Some-pop-2.inputs ∷ [])) in
    let out : c.hand_out-own.result.me.0 ≡ handed_out v = ap (λ m. m.0) c.hand_out-own.ensures.view.1 in
    let p = c.in-Some-pop.field-0 in let h = handed_out v in
    let is : h ≡ turn_view p.task p.cause (taken_in h) (parts_found c.in-Some-pop-2.inputs) (refusal_of h) (held_of h) = one.out ∙ (λ i. turn_view p.task p.cause (taken_in h) (parts_found c.in-Some-pop-2.inputs) (sym (ap refusal_of one.out) i) (sym (ap held_of one.out) i)) in
    let there = subst (λ u. u ≡ turn_view p.task p.cause (taken_in u) (parts_found c.in-Some-pop-2.inputs) (refusal_of u) (held_of u)) (sym out) is in
    let two = knows_left _ c.rest.inside.parts.items c.pop-2.new.self.items c.in-Some-pop-2.inputs c.in-Some-pop-2.ensures.items (held_in _ c.rest.inside.seat c.in-Some.seat c.rest.invariant.7 c.in-Some.is) in
    ((λ i. (there i, ap (λ m. m.1) c.hand_out-own.ensures.view.1 i)), one.found ∙ ap (λ u. length (taken_in u)) (sym out), subst (λ l. Knows l (values_in (given_in c.in-Some-pop-2.inputs))) (sym c.hand_out-own.ensures.values.1) two.1)

pub returns : goal.returns
returns g c =
    let turns = c.rest.inside.turns.items in let drops = c.rest.inside.drops.items in let v = c.in-Some.seat.me.0 in let left = c.pop.new.self.items in
    let holds = held_in _ c.rest.inside.seat c.in-Some.seat c.rest.invariant.0 c.in-Some.is in
    let none : drops ≡ [] = ap (λ (r : RestState). r.dropped) c.rest.view_is ∙ c.requires.undropped in
    let one = hands_one turns left c.in-Some-pop.field-0 (map parts_found c.rest.inside.parts.items) (map parts_found c.pop-2.new.self.items) (parts_found c.in-Some-pop-2.inputs) v (subst (λ ds. IsRestView turns ds v) none holds.0) holds.3 c.in-Some-pop.ensures.items (ap (map parts_found) c.in-Some-pop-2.ensures.items ∙ map-append parts_found c.pop-2.new.self.items (c.in-Some-pop-2.inputs ∷ [])) in
    let out : c.hand_out-own.result.me.0 ≡ handed_out v = ap (λ m. m.0) c.hand_out-own.ensures.view.1 in
    let table : c.hand_out-own.result.table_id ≡ c.args.self.now.table = search rules in
    let view : c.hand_out-own.new.seat.me.0 ≡ left_behind v = ap (λ m. m.0) c.hand_out-own.ensures.view.0 in
    let k = left_known (λ s. s.me.0) left c.seat_with.result c.hand_out-own.new.seat c.seat_with.ensures.none c.seat_with.ensures.some (ap alone_in view ∙ one.unknown) (ap full_in view ∙ one.none_full) in
    let before : c.hand_out-own.new.seat.found ≡ c.args.rest.found = c.hand_out-own.ensures.found.0 ∙ sym (ap (λ o. option_map_or (λ s. s.found) o []) c.in-Some.is) ∙ ap (λ (r : RestState). r.found) c.rest.view_is in
    let kept = left_found (λ s. s.found) left c.seat_with.result c.hand_out-own.new.seat c.args.rest.found c.seat_with.ensures.none c.seat_with.ensures.some before in
    let still : c.hand_out-own.new.seat.table_id ≡ c.args.self.now.table = search rules in
    record {
      turns = sym (ap (λ (r : RestState). r.turns) c.rest.view_is) ∙ c.in-Some-pop.ensures.items;
      is = λ i. turn_with (table i) c.in-Some-pop.field-0.task c.in-Some-pop.field-0.cause (ap refusal_of (out ∙ one.out) i) (ap held_of (out ∙ one.out) i) (c.hand_out-own.ensures.found.1 i);
      left = λ i. rest_with (left_is (λ s. s.table_id) c.args.self.now.table left c.seat_with.result c.hand_out-own.new.seat c.seat_with.ensures.none c.seat_with.ensures.some still i) (c.rest.view_is i).room left (none i) (k.0 i) (k.1 i) (kept i);
      table = left_table (λ s. s.table_id) c.args.self.now.table left c.seat_with.result c.hand_out-own.new.seat c.seat_with.ensures.none c.seat_with.ensures.some still;
    }

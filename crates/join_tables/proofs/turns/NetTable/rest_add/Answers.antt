use Rattle.std.proofs.Common.{rules, ◌≡◌, ◌∷◌, ◌++◌, length, map, None, [], IfNone, sym, ap, ◌∙◌, subst, arith}
use Rattle.std.specs.Option.{option_map_or}
use Rattle.std.proofs.lemmas.List.{map-append, length-map, length_push}
use Rattle.table_steps.specs.Values.{Knows}
use Rattle.table_steps.proofs.Values.{knows_again}
use Rattle.join_tables.specs.Values.{found_values}
use Rattle.join_tables.proofs.Knowing.{no_items, knows_rest, knows_parked}
use Rattle.join_tables.specs.Inputs.{parts_found}
use Rattle.join_tables.specs.RestStates.{RestState, parked_as}
use Rattle.table_steps.specs.inside.RestKinds.{parked}
use Rattle.join_tables.specs.inside.Resting.{IsRestView, RestParts}
use Rattle.join_tables.specs.States.{TurnState}
use Rattle.join_tables.specs.inside.Seated.{turn_view, taken_in, refusal_of, held_of}
use Rattle.join_tables.proofs.RestViews.{some_map, may_park, rest_taken, takes_in}
use Rattle.join_tables.proofs.turns.NetTable.rest_add.Goals as goal

pub join_rest-seat-requires-clause-ready : goal.join_rest-seat-requires-clause-ready
join_rest-seat-requires-clause-ready g c =
    let w = c.turn.inside.seat.me.0 in let t = c.turn.inside.task in let cause = c.turn.inside.cause in
    let none : refusal_of w ≡ None = ap (λ (t : TurnState). t.refused) c.turn.view_is ∙ c.requires.waits.0 in
    let empty : held_of w ≡ [] = ap (λ (t : TurnState). t.held) c.turn.view_is ∙ c.requires.waits.1 in
    let is : w ≡ turn_view t cause (taken_in w) (parts_found c.turn.inside.inputs) None [] = ap (λ m. m.0) c.turn.invariant.0 ∙ (λ i. turn_view t cause (taken_in w) (parts_found c.turn.inside.inputs) (none i) (empty i)) in
    some_map c.rest.inside.seat c.rest.invariant.0 (λ s h. may_park c.rest.inside.turns.items c.rest.inside.drops.items s.me.0 w t cause (taken_in w) (parts_found c.turn.inside.inputs) h.0 h.2 is)

pub invariant_of-result : goal.invariant_of-result
invariant_of-result g c =
    let w = c.turn.inside.seat.me.0 in let t = c.turn.inside.task in let cause = c.turn.inside.cause in let found = parts_found c.turn.inside.inputs in
    let turns = c.rest.inside.turns.items in let drops = c.rest.inside.drops.items in let parts = map parts_found c.rest.inside.parts.items in
    let none : refusal_of w ≡ None = ap (λ (t : TurnState). t.refused) c.turn.view_is ∙ c.requires.waits.0 in
    let empty : held_of w ≡ [] = ap (λ (t : TurnState). t.held) c.turn.view_is ∙ c.requires.waits.1 in
    let is : w ≡ turn_view t cause (taken_in w) found None [] = ap (λ m. m.0) c.turn.invariant.0 ∙ (λ i. turn_view t cause (taken_in w) found (none i) (empty i)) in
    let undropped : drops ≡ [] = ap (λ (r : RestState). r.dropped) c.rest.view_is ∙ c.requires.undropped in
    let same : length parts ≡ length turns = length-map c.rest.inside.parts.items parts_found ∙ omega (arith, c.rest.invariant.5) in
    let h = rest_taken (λ s. s.me.0) (λ s. s.me.1 ≡ []) c.rest.inside.seat turns drops parts c.rest.invariant.0 c.rest.invariant.1 same undropped in
    let now = takes_in turns parts (option_map_or (λ s. s.me.0) c.rest.inside.seat []) w t cause (taken_in w) found c.turn.invariant.1 h.0 h.1 is in
    let items : c.push_reserved.new.self.items ≡ turns ++ parked_as t cause ∷ [] = c.push_reserved.ensures.items in
    let all : map parts_found c.push_reserved-2.new.self.items ≡ parts ++ found ∷ [] = ap (map parts_found) c.push_reserved-2.ensures.items ∙ map-append parts_found c.rest.inside.parts.items (c.turn.inside.inputs ∷ []) in
    let v = c.join_rest-seat.result.me.0 in let view : v ≡ parked (option_map_or (λ s. s.me.0) c.rest.inside.seat []) w = ap (λ m. m.0) c.join_rest-seat.ensures.view in
    let kept : IsRestView c.push_reserved.new.self.items drops v =
    subst (λ ts. IsRestView ts drops v) (sym items) (subst (λ ds. IsRestView (turns ++ parked_as t cause ∷ []) ds v) (sym undropped) (subst (λ u. IsRestView (turns ++ parked_as t cause ∷ []) [] u) (sym view) now.rest)) in
    let empty_rest : c.rest.inside.seat ≡ None → c.rest.inside.parts.items ≡ [] = λ is. no_items c.rest.inside.parts.items (omega (arith, c.rest.invariant.5, ap length (subst (λ o. IfNone o ((turns ≡ []) × (drops ≡ []))) is c.rest.invariant.1).0)) in
    let before = knows_again _ _ _ c.join_rest-seat.ensures.known.0 (knows_rest (λ s. s.values) c.rest.inside.seat c.rest.inside.parts.items empty_rest c.rest.invariant.7) in
    let known = subst (λ all. Knows c.join_rest-seat.result.values (found_values all)) (sym c.push_reserved-2.ensures.items) (knows_parked _ c.rest.inside.parts.items c.turn.inside.inputs before (knows_again _ _ _ c.join_rest-seat.ensures.known.1 c.turn.invariant.2)) in
    let kept_parts = subst (λ fs. RestParts fs v) (sym all) (subst (λ u. RestParts (parts ++ found ∷ []) u) (sym view) now.parts_are) in (
      (kept, ap (λ m. m.1) c.join_rest-seat.ensures.view, (λ empty. omega (arith, ap length empty, ap length items, length_push turns (parked_as t cause))), kept_parts),
      tt,
      search rules,
      search rules,
      search rules,
      search rules,
      search rules,
      known,
    )

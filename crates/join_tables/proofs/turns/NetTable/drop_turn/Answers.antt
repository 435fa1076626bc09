use Rattle.std.proofs.Common.{◌≡◌, Some, [], ◌∷◌, refl, sym, ap, ◌∙◌, subst}
use Rattle.table_steps.proofs.Values.{knows_none}
use Rattle.join_tables.specs.Inputs.{parts_found}
use Rattle.table_steps.specs.OneJournal.{AreInOneJournal}
use Rattle.table_steps.specs.inside.Kinds.{IsTurn}
use Rattle.join_tables.specs.States.{TableState, TurnState}
use Rattle.join_tables.specs.declared.fates.Dropping.{Dropping}
use Rattle.join_tables.specs.Keeping.{drop_of, with_places}
use Rattle.join_tables.specs.inside.Seated.{turn_view, taken_in, refusal_of, held_of, IsSpent}
use Rattle.join_tables.proofs.TurnViews.{refuses}
use Rattle.join_tables.proofs.Drawn.{spent_in_one}
use Rattle.join_tables.proofs.Lones.{drops_turn}
use Rattle.join_tables.proofs.turns.NetTable.drop_turn.Goals as goal

pub draw_drop-place-requires-clause-ready : goal.draw_drop-place-requires-clause-ready
draw_drop-place-requires-clause-ready g c =
    let v = c.turn.inside.seat.me.0 in let t = c.turn.inside.task in let cause = c.turn.inside.cause in let parts = parts_found c.turn.inside.inputs in
    let why : refusal_of v ≡ Some c.args.why = ap (λ (t : TurnState). t.refused) c.turn.view_is ∙ c.requires.refused in
    let empty : held_of v ≡ [] = ap (λ (t : TurnState). t.held) c.turn.view_is ∙ c.requires.no_unit in
    let is : v ≡ turn_view t cause (taken_in v) parts (Some c.args.why) [] = ap (λ m. m.0) c.turn.invariant.0 ∙ (λ i. turn_view t cause (taken_in v) parts (why i) (empty i)) in
    (drops_turn t cause (taken_in v) parts c.args.why v c.turn.invariant.1 is (refuses t cause (taken_in v) parts (Some c.args.why) [] (ap refusal_of (sym is) ∙ why))).may

pub invariant_of-result : goal.invariant_of-result
invariant_of-result g c =
    let v = c.turn.inside.seat.me.0 in let t = c.turn.inside.task in let cause = c.turn.inside.cause in let parts = parts_found c.turn.inside.inputs in
    let why : refusal_of v ≡ Some c.args.why = ap (λ (t : TurnState). t.refused) c.turn.view_is ∙ c.requires.refused in
    let empty : held_of v ≡ [] = ap (λ (t : TurnState). t.held) c.turn.view_is ∙ c.requires.no_unit in
    let is : v ≡ turn_view t cause (taken_in v) parts (Some c.args.why) [] = ap (λ m. m.0) c.turn.invariant.0 ∙ (λ i. turn_view t cause (taken_in v) parts (why i) (empty i)) in
    let drops = drops_turn t cause (taken_in v) parts c.args.why v c.turn.invariant.1 is (refuses t cause (taken_in v) parts (Some c.args.why) [] (ap refusal_of (sym is) ∙ why)) in
    let d : Dropping = record { task = t; cause = cause; place = c.draw_drop-place.result; why = c.args.why } in
    (subst (λ u. IsSpent (drop_of d ∷ []) u) (sym (c.learn.ensures.view.0 ∙ c.draw_drop-place.ensures.view.0)) (drops.spent d refl refl refl), c.learn.ensures.view.1 ∙ c.draw_drop-place.ensures.view.1 ∙ ap (λ m. m.1) c.turn.invariant.0, knows_none _)

pub returns-clause-journal : goal.returns-clause-journal
returns-clause-journal g c =
    let v = c.turn.inside.seat.me.0 in let t = c.turn.inside.task in let cause = c.turn.inside.cause in let parts = parts_found c.turn.inside.inputs in
    let why : refusal_of v ≡ Some c.args.why = ap (λ (t : TurnState). t.refused) c.turn.view_is ∙ c.requires.refused in
    let empty : held_of v ≡ [] = ap (λ (t : TurnState). t.held) c.turn.view_is ∙ c.requires.no_unit in
    let is : v ≡ turn_view t cause (taken_in v) parts (Some c.args.why) [] = ap (λ m. m.0) c.turn.invariant.0 ∙ (λ i. turn_view t cause (taken_in v) parts (why i) (empty i)) in
    let drops = drops_turn t cause (taken_in v) parts c.args.why v c.turn.invariant.1 is (refuses t cause (taken_in v) parts (Some c.args.why) [] (ap refusal_of (sym is) ∙ why)) in
    let d : Dropping = record { task = t; cause = cause; place = c.draw_drop-place.result; why = c.args.why } in
    let spent = subst (λ u. IsSpent (drop_of d ∷ []) u) (sym c.draw_drop-place.ensures.view.0) (drops.spent d refl refl refl) in
    subst (λ (s : TableState). AreInOneJournal s.net s.limit (with_places (drop_of d ∷ []))) c.self.view_is (spent_in_one _ _ c.draw_drop-place.new.seat.me.0 (drop_of d ∷ []) spent c.learn.ensures.journal)

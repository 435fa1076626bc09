use Rattle.std.proofs.Common.{◌<◌, length, rules, ◌≡◌, ◌≤◌, ◌∷◌, refl, true, false, None, subst, sym, ap, ◌∙◌}
use Rattle.std.specs.Prelude.{nat_lt}
use Rattle.std.specs.Arc.{arc_value}
use Rattle.std.proofs.lemmas.Bool.Decides.{nat_tests}
use Rattle.journal_rules.specs.SemaphoreRule.{max_of}
use Rattle.table_steps.proofs.Values.{knows_again}
use Rattle.join_tables.specs.Inputs.{parts_found}
use Rattle.join_tables.specs.Findings.{FindsOne}
use Rattle.join_tables.specs.States.{TurnState, turn_with}
use Rattle.join_tables.specs.inside.Seated.{turn_view, taken_in, refusal_of, held_of}
use Rattle.table_steps.specs.inside.UnitKinds.{took_unit, undone}
use Rattle.join_tables.proofs.Lones.{may_take_turn, may_undo_turn}
use Rattle.join_tables.proofs.TurnViews.{got_reads, undo_same}
use Rattle.join_tables.proofs.turns.NetTable.take_unit.Goals as goal

pub invariant_of-result : goal.invariant_of-result
invariant_of-result g c =
    let v = c.turn.inside.seat.me.0 in let net = arc_value c.self.inside.words.net in
    let none : refusal_of v ≡ None = ap (λ (t : TurnState). t.refused) c.turn.view_is ∙ c.requires.not_refused in
    let there : nat_lt c.draw_unit-found.result (max_of net c.args.sem) ≡ true = search (rules, nat_tests) in
    let r = got_reads net c.turn.inside.task c.turn.inside.cause (parts_found c.turn.inside.inputs) c.args.sem c.draw_unit-found.result v c.draw_unit-found.new.seat.me.0 (ap (λ m. m.0) c.turn.invariant.0) none there c.draw_unit-found.ensures.view.0 in
    ((λ i. (r.is i, (c.draw_unit-found.ensures.view.1 ∙ ap (λ m. m.1) c.turn.invariant.0) i)), c.turn.invariant.1 ∙ ap length (sym r.takes), knows_again _ _ _ c.draw_unit-found.ensures.known c.turn.invariant.2)

pub invariant_of-result-2 : goal.invariant_of-result-2
invariant_of-result-2 g c =
    let v = c.turn.inside.seat.me.0 in let net = arc_value c.self.inside.words.net in
    let none : refusal_of v ≡ None = ap (λ (t : TurnState). t.refused) c.turn.view_is ∙ c.requires.not_refused in
    let full : nat_lt c.draw_unit-found.result (max_of net c.args.sem) ≡ false = search (rules, nat_tests) in
    let same : c.undo_unit.new.seat.me.0 ≡ v = c.undo_unit.ensures.view.0 ∙ ap undone c.draw_unit-found.ensures.view.0 ∙ undo_same net c.turn.inside.task c.turn.inside.cause (parts_found c.turn.inside.inputs) c.args.sem c.draw_unit-found.result v (ap (λ m. m.0) c.turn.invariant.0) none full in
    let is = subst (λ u. u ≡ turn_view c.turn.inside.task c.turn.inside.cause (taken_in u) (parts_found c.turn.inside.inputs) (refusal_of u) (held_of u)) (sym same) (ap (λ m. m.0) c.turn.invariant.0) in
    ((λ i. (is i, (c.undo_unit.ensures.view.1 ∙ c.draw_unit-found.ensures.view.1 ∙ ap (λ m. m.1) c.turn.invariant.0) i)), c.turn.invariant.1 ∙ ap (λ u. length (taken_in u)) (sym same), knows_again _ _ _ c.undo_unit.ensures.known (knows_again _ _ _ c.draw_unit-found.ensures.known c.turn.invariant.2))

pub returns : goal.returns
returns g c =
    let v = c.turn.inside.seat.me.0 in let net = arc_value c.self.inside.words.net in let found = c.draw_unit-found.result in
    let none : refusal_of v ≡ None = ap (λ (t : TurnState). t.refused) c.turn.view_is ∙ c.requires.not_refused in
    let full : nat_lt found (max_of net c.args.sem) ≡ false = search (rules, nat_tests) in
    let same : c.undo_unit.new.seat.me.0 ≡ v = c.undo_unit.ensures.view.0 ∙ ap undone c.draw_unit-found.ensures.view.0 ∙ undo_same net c.turn.inside.task c.turn.inside.cause (parts_found c.turn.inside.inputs) c.args.sem found v (ap (λ m. m.0) c.turn.invariant.0) none full in
    let now : c.undo_unit.new.seat.found ≡ found ∷ c.args.turn.found = c.undo_unit.ensures.found ∙ c.draw_unit-found.ensures.found ∙ ap (λ (t : TurnState). found ∷ t.found) c.turn.view_is in
    let past : max_of c.args.self.now.net c.args.sem ≤ found = search (rules, nat_tests) in
    let table : c.undo_unit.new.seat.table_id ≡ c.turn.inside.seat.table_id = search rules in (
      (λ i. turn_with (table i) c.turn.inside.task c.turn.inside.cause (refusal_of (same i)) (held_of (same i)) c.undo_unit.new.seat.found)
          ∙ ap (λ (t : TurnState). turn_with t.table t.task t.cause t.refused t.held c.undo_unit.new.seat.found) c.turn.view_is
          ∙ ap (λ r. turn_with c.args.turn.table c.args.turn.task c.args.turn.cause r c.args.turn.held c.undo_unit.new.seat.found) c.requires.not_refused,
      subst (λ ns. FindsOne (λ n. max_of c.args.self.now.net c.args.sem ≤ n) c.args.turn.found ns) (sym now) (refl, past),
    )

pub draw_unit-found-requires-clause-ready : goal.draw_unit-found-requires-clause-ready
draw_unit-found-requires-clause-ready g c =
    let v = c.turn.inside.seat.me.0 in let t = c.turn.inside.task in let cause = c.turn.inside.cause in let parts = parts_found c.turn.inside.inputs in let net = arc_value c.self.inside.words.net in
    let none : refusal_of v ≡ None = ap (λ (t : TurnState). t.refused) c.turn.view_is ∙ c.requires.not_refused in
    let below : c.args.sem < length net.sems = search rules in
    may_take_turn net c.args.sem t cause (taken_in v) parts (held_of v) v (ap (λ m. m.0) c.turn.invariant.0 ∙ ap (λ r. turn_view t cause (taken_in v) parts r (held_of v)) none) below

pub undo_unit-requires-clause-ready : goal.undo_unit-requires-clause-ready
undo_unit-requires-clause-ready g c =
    let v = c.turn.inside.seat.me.0 in let t = c.turn.inside.task in let cause = c.turn.inside.cause in let parts = parts_found c.turn.inside.inputs in let net = arc_value c.self.inside.words.net in
    let none : refusal_of v ≡ None = ap (λ (t : TurnState). t.refused) c.turn.view_is ∙ c.requires.not_refused in
    let is : v ≡ turn_view t cause (taken_in v) parts None (held_of v) = ap (λ m. m.0) c.turn.invariant.0 ∙ ap (λ r. turn_view t cause (taken_in v) parts r (held_of v)) none in
    let below : c.args.sem < length net.sems = search rules in
    let full : nat_lt c.draw_unit-found.result (max_of net c.args.sem) ≡ false = search (rules, nat_tests) in
    may_undo_turn net c.args.sem c.draw_unit-found.result t cause (taken_in v) parts (held_of v) c.draw_unit-found.new.seat.me.0 (c.draw_unit-found.ensures.view.0 ∙ ap (took_unit net c.args.sem c.draw_unit-found.result) is) full below

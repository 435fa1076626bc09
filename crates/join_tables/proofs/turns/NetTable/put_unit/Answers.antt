use Rattle.std.proofs.Common.{◌<◌, length, rules, ◌≡◌, ◌≤◌, subst, sym, ap, ◌∙◌}
use Rattle.table_steps.proofs.Values.{knows_again}
use Rattle.join_tables.specs.Inputs.{parts_found}
use Rattle.join_tables.specs.States.{TurnState, turn_with}
use Rattle.table_steps.specs.Giving.{times}
use Rattle.table_steps.specs.Holding.{without}
use Rattle.join_tables.specs.inside.Seated.{taken_in, refusal_of, held_of}
use Rattle.std.specs.Arc.{arc_value}
use Rattle.join_tables.proofs.Lones.{may_put_turn}
use Rattle.join_tables.proofs.TurnViews.{refuses, put_reads}
use Rattle.join_tables.proofs.turns.NetTable.put_unit.Goals as goal

pub invariant_of-result : goal.invariant_of-result
invariant_of-result g c =
    let v = c.turn.inside.seat.me.0 in
    let r = put_reads c.turn.inside.task c.turn.inside.cause (parts_found c.turn.inside.inputs) c.args.sem v c.put_unit_back.new.seat.me.0 (ap (λ m. m.0) c.turn.invariant.0) c.put_unit_back.ensures.view.0 in
    ((λ i. (r.is i, (c.put_unit_back.ensures.view.1 ∙ ap (λ m. m.1) c.turn.invariant.0) i)), c.turn.invariant.1 ∙ ap length (sym r.takes), knows_again _ _ _ c.put_unit_back.ensures.known c.turn.invariant.2)

pub returns : goal.returns
returns g c =
    let v = c.turn.inside.seat.me.0 in
    let r = put_reads c.turn.inside.task c.turn.inside.cause (parts_found c.turn.inside.inputs) c.args.sem v c.put_unit_back.new.seat.me.0 (ap (λ m. m.0) c.turn.invariant.0) c.put_unit_back.ensures.view.0 in
    let table : c.put_unit_back.new.seat.table_id ≡ c.turn.inside.seat.table_id = search rules in
    (λ i. turn_with (table i) c.turn.inside.task c.turn.inside.cause (r.refused i) (r.held i) (c.put_unit_back.ensures.found i)) ∙ ap (λ (t : TurnState). turn_with t.table t.task t.cause t.refused (without c.args.sem t.held) t.found) c.turn.view_is

pub put_unit_back-requires-clause-ready : goal.put_unit_back-requires-clause-ready
put_unit_back-requires-clause-ready g c =
    let v = c.turn.inside.seat.me.0 in let t = c.turn.inside.task in let cause = c.turn.inside.cause in let parts = parts_found c.turn.inside.inputs in
    let is = ap (λ m. m.0) c.turn.invariant.0 in
    let there : 1 ≤ times c.args.sem (held_of v) = subst (λ h. 1 ≤ times c.args.sem h) (sym (ap (λ (t : TurnState). t.held) c.turn.view_is)) c.requires.held in
    let below : c.args.sem < length (arc_value c.self.inside.words.net).sems = search rules in
    may_put_turn (arc_value c.self.inside.words.net) c.args.sem t cause (taken_in v) parts (refusal_of v) (held_of v) v is (refuses t cause (taken_in v) parts (refusal_of v) (held_of v) (ap refusal_of (sym is))) there below

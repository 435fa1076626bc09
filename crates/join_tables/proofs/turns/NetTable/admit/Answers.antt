use Rattle.std.proofs.Common.{rules, ◌≡◌, None, ap, ◌∙◌}
use Rattle.join_tables.specs.Inputs.{parts_found}
use Rattle.join_tables.specs.States.{TurnState}
use Rattle.table_steps.specs.inside.Halts.{halt_read}
use Rattle.join_tables.specs.inside.Seated.{turn_view, taken_in, refusal_of, held_of}
use Rattle.join_tables.proofs.Lones.{may_ask_turn, may_admit_turn}
use Rattle.join_tables.proofs.turns.NetTable.admit.Goals as goal

pub load_halt-requires-clause-ready : goal.load_halt-requires-clause-ready
load_halt-requires-clause-ready g c =
    let v = c.turn.inside.seat.me.0 in let t = c.turn.inside.task in let cause = c.turn.inside.cause in let parts = parts_found c.turn.inside.inputs in
    let none : refusal_of v ≡ None = ap (λ (t : TurnState). t.refused) c.turn.view_is ∙ c.requires.asked_once in
    may_ask_turn t cause (taken_in v) parts (held_of v) v (ap (λ m. m.0) c.turn.invariant.0 ∙ ap (λ r. turn_view t cause (taken_in v) parts r (held_of v)) none)

pub draw_admission-drawn-requires-clause-ready : goal.draw_admission-drawn-requires-clause-ready
draw_admission-drawn-requires-clause-ready g c =
    let v = c.turn.inside.seat.me.0 in let t = c.turn.inside.task in let cause = c.turn.inside.cause in let parts = parts_found c.turn.inside.inputs in
    let none : refusal_of v ≡ None = ap (λ (t : TurnState). t.refused) c.turn.view_is ∙ c.requires.asked_once in
    let is : v ≡ turn_view t cause (taken_in v) parts None (held_of v) = ap (λ m. m.0) c.turn.invariant.0 ∙ ap (λ r. turn_view t cause (taken_in v) parts r (held_of v)) none in
    let clear : c.load_halt.result ≡ 0 = search rules in
    may_admit_turn t cause (taken_in v) parts (held_of v) c.load_halt.result c.load_halt.new.seat.me.0 (c.load_halt.ensures.view.0 ∙ ap (halt_read c.load_halt.result) is) clear

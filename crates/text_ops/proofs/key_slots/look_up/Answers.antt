use Rattle.std.proofs.Common.{◌≡◌, ◌+◌, length, get_or, sym, ap, ◌∙◌, arith}
use Rattle.std.specs.Str.{bytes_eq}
use Rattle.text_ops.specs.declared.slots.Probed.TheVariants.{Free}
use Rattle.text_ops.specs.inside.Slots.{first_slot}
use Rattle.text_ops.specs.inside.KeySlots.{found}
use Rattle.text_ops.proofs.SlotLemmas.{is_read, look_crowded, look_free, look_row, look_on}
use Rattle.text_ops.proofs.key_slots.look_up.Goals as goal

pub loop-probe-init : goal.loop-probe-init
loop-probe-init g c =
    let first = first_slot c.args.key.now (length c.args.slots.now) in
    let here : first + 0 ≡ first = omega arith in
    ap (found c.args.text.now c.args.rows.now c.args.slots.now c.args.key.now 16) here

pub returns-in_default : goal.returns-in_default
returns-in_default g c =
    let text = c.args.text.now in
    let rows = c.args.rows.now in
    let slots = c.args.slots.now in
    let key = c.args.key.now in
    let first = first_slot key (length slots) in
    let is : c.first_slot-first.result ≡ first = c.first_slot-first.ensures.value in
    sym (look_crowded text rows slots key first c.loop-probe.probe c.loop-probe-test.true (omega (arith, is, c.in_default.ensures.lookup.3)))
    ∙ c.loop-probe.invariant

pub returns-in_default-get : goal.returns-in_default-get
returns-in_default-get g c =
    let text = c.args.text.now in
    let rows = c.args.rows.now in
    let slots = c.args.slots.now in
    let key = c.args.key.now in
    let first = first_slot key (length slots) in
    let is : c.first_slot-first.result ≡ first = c.first_slot-first.ensures.value in
    let at : c.first_slot-first.result + c.loop-probe.probe ≡ first + c.loop-probe.probe = omega (arith, is) in
    let slot = is_read slots (first + c.loop-probe.probe) c.in-Some.slot.now (omega (arith, is, c.in-Some.ensures.lookup.3.0)) (λ d. c.in-Some.ensures.lookup.3.1 d ∙ ap (λ n. get_or slots n d) at) in
    ap Free at
    ∙ sym (look_free text rows slots key first c.loop-probe.probe c.loop-probe-test.true c.in-Some.slot.now slot c.in_default-get.ensures.lookup.3)
    ∙ c.loop-probe.invariant

pub returns-then-eq : goal.returns-then-eq
returns-then-eq g c =
    let text = c.args.text.now in
    let rows = c.args.rows.now in
    let slots = c.args.slots.now in
    let key = c.args.key.now in
    let first = first_slot key (length slots) in
    let is : c.first_slot-first.result ≡ first = c.first_slot-first.ensures.value in
    let at : c.first_slot-first.result + c.loop-probe.probe ≡ first + c.loop-probe.probe = omega (arith, is) in
    let slot = is_read slots (first + c.loop-probe.probe) c.in-Some.slot.now (omega (arith, is, c.in-Some.ensures.lookup.3.0)) (λ d. c.in-Some.ensures.lookup.3.1 d ∙ ap (λ n. get_or slots n d) at) in
    let row = is_read rows c.in-Some.slot.now c.in-Some-get.sort_key.now c.in-Some-get.ensures.lookup.3.0 c.in-Some-get.ensures.lookup.3.1 in
    let test = ap (λ p. bytes_eq p key) (sym c.keyed_piece.ensures) ∙ sym c.eq.ensures in
    sym (look_row text rows slots key first c.loop-probe.probe c.loop-probe-test.true c.in-Some.slot.now slot c.in-Some-get.sort_key.now row (test ∙ c.if-eq.true))
    ∙ c.loop-probe.invariant

pub loop-probe-preserved : goal.loop-probe-preserved
loop-probe-preserved g c =
    let text = c.args.text.now in
    let rows = c.args.rows.now in
    let slots = c.args.slots.now in
    let key = c.args.key.now in
    let first = first_slot key (length slots) in
    let is : c.first_slot-first.result ≡ first = c.first_slot-first.ensures.value in
    let at : c.first_slot-first.result + c.loop-probe.probe ≡ first + c.loop-probe.probe = omega (arith, is) in
    let slot = is_read slots (first + c.loop-probe.probe) c.in-Some.slot.now (omega (arith, is, c.in-Some.ensures.lookup.3.0)) (λ d. c.in-Some.ensures.lookup.3.1 d ∙ ap (λ n. get_or slots n d) at) in
    let row = is_read rows c.in-Some.slot.now c.in-Some-get.sort_key.now c.in-Some-get.ensures.lookup.3.0 c.in-Some-get.ensures.lookup.3.1 in
    let test = ap (λ p. bytes_eq p key) (sym c.keyed_piece.ensures) ∙ sym c.eq.ensures in
    sym (look_on text rows slots key first c.loop-probe.probe c.loop-probe-test.true c.in-Some.slot.now slot c.in-Some-get.sort_key.now row (test ∙ c.if-eq.false))
    ∙ c.loop-probe.invariant

use Rattle.std.proofs.Common.{◌+◌, drop, length, sym, subst, ◌∙◌}
use Rattle.text_ops.specs.inside.KeySlots.{AreFilled}
use Rattle.text_ops.proofs.SlotLemmas.{written_back}
use Rattle.text_ops.proofs.key_slots.filled_slots.Goals as goal

pub loop-row-preserved : goal.loop-row-preserved
loop-row-preserved g c =
    let text = c.args.text.now in
    let rows = c.args.rows.now in
    let written = written_back c.loop-row.slots.len c.fill.new.slots (drop (length c.fill.new.slots) c.loop-row.slots.items) (c.fill.auto.slots ∙ c.deref_mut.ensures.len) in
    let before = subst (λ slots. AreFilled text rows slots c.loop-row.row) (sym c.deref_mut.ensures.value) c.loop-row.invariant in
    subst (λ slots. AreFilled text rows slots (c.loop-row.row + 1)) (sym written) (c.fill.ensures.filled c.if-not-fill.false before)

use Rattle.std.proofs.Common.{refl, sym, ap, ◌∙◌}
use Rattle.std.proofs.lemmas.Bool.{leb-true}
use Rattle.std.proofs.lemmas.Option.{slice_get_read}
use Rattle.text_ops.specs.inside.KeySlots.{look_up}
use Rattle.text_ops.proofs.SlotLemmas.{AreFilled-found, AreFilled-filled, free_within}
use Rattle.text_ops.proofs.key_slots.fill.Goals as goal

pub bounds-slots-at : goal.bounds-slots-at
bounds-slots-at g c = free_within c.args.text.now c.args.rows.now c.args.slots.now c.keyed_piece-key.result.now c.in-Free.at (sym c.in-Free.ensures)

pub returns-in-Row : goal.returns-in-Row
returns-in-Row g c =
    let rows = c.args.rows.now in
    let here = slice_get_read rows _ c.args.row c.index-rows-row.result refl c.requires.within c.index-rows-row.is in
    let key = ap (look_up c.args.text.now rows c.args.slots.now) (sym c.keyed_piece-key.ensures) ∙ sym c.in-Row.ensures in
    record { filled = λ low so_far. AreFilled-found c.args.text.now rows c.args.slots.now c.args.row c.index-rows-row.result here so_far c.in-Row.first (leb-true c.in-Row.first c.args.row low) key }

pub returns-in-Free : goal.returns-in-Free
returns-in-Free g c =
    let rows = c.args.rows.now in
    let here = slice_get_read rows _ c.args.row c.index-rows-row.result refl c.requires.within c.index-rows-row.is in
    let key = ap (look_up c.args.text.now rows c.args.slots.now) (sym c.keyed_piece-key.ensures) ∙ sym c.in-Free.ensures in
    record { filled = λ yes so_far. AreFilled-filled c.args.text.now rows c.args.slots.now c.args.row c.index-rows-row.result here so_far c.in-Free.at key }

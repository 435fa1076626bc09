use Rattle.std.proofs.Common.{◌∙◌, Some, sym, ap, arith}
use Rattle.std.specs.Option.{option_map}
use Rattle.text_ops.specs.MatchKeys.{behind_key}
use Rattle.text_ops.specs.inside.Matching.{behind_sort_key}
use Rattle.text_ops.proofs.SortKeyLemmas.{no_sort_key}
use Rattle.text_ops.proofs.KeySlotLemmas.{behind_row, no_row, row_inside}
use Rattle.text_ops.proofs.matches.behind_found.Goals as goal

pub returns-in_default : goal.returns-in_default
returns-in_default g c =
    sym (ap (option_map behind_key)
    (no_row c.args.text.now c.args.key.now c.args.sort_keys.now c.args.slots.now c.requires.normal c.requires.slots
    (λ row found. c.in_default.not-Row row (c.look_up.ensures ∙ found))))

pub returns-in_err-get : goal.returns-in_err-get
returns-in_err-get g c =
    let inside = row_inside c.args.text.now c.args.key.now c.args.sort_keys.now c.args.slots.now c.requires.normal c.requires.slots c.in-Row.row (sym c.in-Row.ensures) in
    absurd (omega (arith, inside, c.in_err-get.ensures.lookup.3))

pub returns : goal.returns
returns g c =
    ap Some (c.behind.ensures ∙ ap (behind_sort_key c.args.text.now) (c.in_ok-get.ensures.lookup.3.1 no_sort_key))
    ∙ sym (behind_row c.args.text.now c.args.key.now c.args.sort_keys.now c.args.slots.now c.requires.normal c.requires.slots c.in-Row.row no_sort_key (sym c.in-Row.ensures))

use Rattle.std.proofs.Common.{rules, sym, subst}
use Rattle.text_ops.specs.TextMeaning.{tally_meaning}
use Rattle.text_ops.specs.Values.{Makes}
use Rattle.text_ops.specs.inside.Counting.{AreDifferentLines}
use Rattle.text_ops.proofs.tallies.tally.Goals as goal

pub returns-in-Some : goal.returns-in-Some
returns-in-Some c =
    let bytes = c.as_slice-bytes.result.now in
    let are : AreDifferentLines bytes c.in-Some.rows.items = search rules in
    subst (λ text. Makes (tally_meaning text) c.tally_of_rows.result) c.as_slice-bytes.ensures.value (c.tally_of_rows.ensures bytes (subst (AreDifferentLines bytes) (sym c.as_slice.ensures.value) are))

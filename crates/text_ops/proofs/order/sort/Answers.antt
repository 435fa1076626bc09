use Rattle.std.proofs.Common.{◌∙◌, sym, ap, length}
use Rattle.text_ops.proofs.SortLemmas.{length-sort_meaning}
use Rattle.text_ops.proofs.order.sort.Goals as goal

pub returns-then-len-gt-VALUE_LIMIT : goal.returns-then-len-gt-VALUE_LIMIT
returns-then-len-gt-VALUE_LIMIT c =
    (ap length c.as_slice-bytes.ensures.value ∙ sym (length-sort_meaning c.args.text.now c.as_slice-bytes.ensures.normal), c.if-len-gt-VALUE_LIMIT.true)

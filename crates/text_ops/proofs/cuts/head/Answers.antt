use Rattle.std.proofs.Common.{subst}
use Rattle.text_ops.specs.Values.{Makes}
use Rattle.text_ops.proofs.CutLemmas.{part_before}
use Rattle.text_ops.proofs.cuts.head.Goals as goal

pub returns : goal.returns
returns c =
    subst (λ value. Makes value c.part.result)
    (part_before c.args.text.now c.as_slice.result.now c.args.n c.end_of_first-end.result c.as_slice.ensures.value c.end_of_first-end.ensures) c.part.ensures

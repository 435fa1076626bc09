use Rattle.std.proofs.Common.{subst}
use Rattle.text_ops.specs.Values.{Makes}
use Rattle.text_ops.proofs.CutLemmas.{part_behind, IsNormal-behind}
use Rattle.text_ops.proofs.cuts.skip.Goals as goal

pub part-requires-clause-lines : goal.part-requires-clause-lines
part-requires-clause-lines c = IsNormal-behind c.args.text.now c.as_slice-bytes.result.now c.end_of_first-start.result c.as_slice-bytes.ensures.value c.as_slice-bytes.ensures.normal

pub returns : goal.returns
returns c =
    subst (λ value. Makes value c.part.result)
    (part_behind c.args.text.now c.as_slice-bytes.result.now c.args.n c.end_of_first-start.result c.as_slice-bytes.ensures.value c.as_slice-bytes.ensures.normal c.end_of_first-start.ensures) c.part.ensures

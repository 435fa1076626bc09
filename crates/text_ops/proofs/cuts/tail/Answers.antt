use Rattle.std.proofs.Common.{◌-◌, subst, length}
use Rattle.text_ops.specs.Lines.{lines_of}
use Rattle.text_ops.specs.LineParts.{IsCut}
use Rattle.text_ops.specs.Values.{Makes}
use Rattle.text_ops.proofs.CutLemmas.{part_behind, IsNormal-behind}
use Rattle.text_ops.proofs.cuts.tail.Goals as goal

pub part-requires-clause-lines : goal.part-requires-clause-lines
part-requires-clause-lines c = IsNormal-behind c.args.text.now c.as_slice-bytes.result.now c.start_of_last-start.result c.as_slice-bytes.ensures.value c.as_slice-bytes.ensures.normal

pub returns : goal.returns
returns c =
    subst (λ value. Makes value c.part.result)
    (part_behind c.args.text.now c.as_slice-bytes.result.now (length (lines_of c.args.text.now) - c.args.n) c.start_of_last-start.result c.as_slice-bytes.ensures.value c.as_slice-bytes.ensures.normal (subst (λ text. IsCut c.as_slice-bytes.result.now (length (lines_of text) - c.args.n) c.start_of_last-start.result) c.as_slice-bytes.ensures.value c.start_of_last-start.ensures)) c.part.ensures

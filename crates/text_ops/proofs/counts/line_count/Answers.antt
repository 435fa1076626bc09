use Rattle.std.proofs.Common.{◌∙◌, sym, ap, subst, length}
use Rattle.text_ops.specs.Lines.{IsNormal, lines_of}
use Rattle.text_ops.proofs.counts.line_count.Goals as goal

pub slice_line_count-requires : goal.slice_line_count-requires
slice_line_count-requires c = subst IsNormal (sym c.as_slice.ensures.value) c.as_slice.ensures.normal

pub returns : goal.returns
returns c = c.slice_line_count.ensures ∙ ap (λ text. length (lines_of text)) c.as_slice.ensures.value

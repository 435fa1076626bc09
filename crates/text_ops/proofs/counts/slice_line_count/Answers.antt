use Rattle.std.proofs.Common.{◌∙◌}
use Rattle.text_ops.proofs.LineLemmas.{count_by-lines_of}
use Rattle.text_ops.proofs.counts.slice_line_count.Goals as goal

pub returns : goal.returns
returns c = c.line_ends.ensures ∙ count_by-lines_of c.args.text.now c.requires

use Rattle.std.proofs.Common.{◌-◌, ◌+◌, ◌++◌, arith, ap, ◌∙◌}
use Rattle.pipe_lines.specs.inside.Building.{line_tags}
use Rattle.pipe_lines.proofs.TagLemmas.{tags_are, line_tags_more}
use Rattle.pipe_lines.proofs.tags.along_pipes.Goals as goal

pub loop-line-preserved : goal.loop-line-preserved
loop-line-preserved c =
    line_tags_more c.loop-line.tags c.tag_line.new.tags c.args.spec.now.serial (c.args.spec.now.lines - c.loop-line._line) (c.args.spec.now.lines - (c.loop-line._line + 1)) c.args.spec.now.lines (omega arith)
    (c.in_ok-tag_line.ensures ∙ ap (λ serial. c.loop-line.tags ++ line_tags serial) c.as_slice.ensures) c.loop-line.invariant

pub returns : goal.returns
returns c = tags_are c.args.spec.now.lines c.args.spec.now.serial c.loop-line.tags (c.args.spec.now.lines - c.loop-line._line) (omega arith) c.loop-line.invariant

use Rattle.line_folds.proofs.LinesBetween.{behind_within, between_lines, between_normal}
use Rattle.line_folds.proofs.line_index.LineIndex.lines_between.Goals as goal

pub slice_bounds-result-count : goal.slice_bounds-result-count
slice_bounds-result-count c =
    behind_within _ c.args.from c.args.to c.requires.order c.from_line-rest.result.now c.from_line-behind.result.now
    c.from_line-rest.ensures.normal c.from_line-rest.ensures.lines c.from_line-behind.ensures.normal c.from_line-behind.ensures.lines

pub returns-clause-normal : goal.returns-clause-normal
returns-clause-normal c =
    between_normal _ c.args.from c.args.to c.requires.order c.from_line-rest.result.now c.from_line-behind.result.now
    c.from_line-rest.ensures.normal c.from_line-rest.ensures.lines c.from_line-behind.ensures.normal c.from_line-behind.ensures.lines

pub returns-clause-lines : goal.returns-clause-lines
returns-clause-lines c =
    between_lines _ c.args.from c.args.to c.requires.order c.from_line-rest.result.now c.from_line-behind.result.now
    c.from_line-rest.ensures.normal c.from_line-rest.ensures.lines c.from_line-behind.ensures.normal c.from_line-behind.ensures.lines

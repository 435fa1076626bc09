use Rattle.std.proofs.Common.{◌≡◌, ◌∙◌, ap, length, arith}
use Rattle.text_ops.specs.Lines.{lines_of}
use Rattle.line_folds.specs.WordFolds.{WordText}
use Rattle.line_folds.proofs.MarkLemmas.{lines_le}
use Rattle.line_folds.proofs.WordFoldLemmas.{counts_all_lines}
use Rattle.line_folds.proofs.word_fold.count_by_chunks.Goals as goal

pub reduce_drawn-requires-clause-count : goal.reduce_drawn-requires-clause-count
reduce_drawn-requires-clause-count g c κs within =
    let same = ap (λ (f : WordText). length (lines_of f.text)) c.in_ok-fold.ensures in
    omega (arith, c.count-count.ensures, same, lines_le c.args.text.now, c.requires.short)

pub returns-in-Ok : goal.returns-in-Ok
returns-in-Ok g c = c.in-Ok.ensures.value ∙ counts_all_lines c.args.word.now c.args.text.now c.in_ok-fold.fold c.count-count.result c.in_ok-fold.ensures c.count-count.ensures c.requires.short

use Rattle.std.proofs.Common.{◌-◌, ◌∙◌, sym, arith}
use Rattle.line_folds.proofs.WordFoldLemmas.{counts_lines}
use Rattle.line_folds.proofs.word_fold.WordFoldFold.fold_chunk.Goals as goal

pub returns : goal.returns
returns c =
    c.lines_in.ensures.counted
    ∙ sym (counts_lines c.args.self.now c.args.chunk.from (c.args.chunk.to - c.args.chunk.from) (omega (arith, c.requires.order, c.requires.within)) c.lines_in.ensures.few)

use Rattle.std.proofs.Common.{◌∙◌, arith}
use Rattle.text_ops.proofs.CutLemmas.{LeftBehind-block}
use Rattle.text_ops.proofs.cuts.blocks_before.Goals as goal

pub loop-left-preserved : goal.loop-left-preserved
loop-left-preserved c =
    LeftBehind-block c.args.text.now c.args.n c.loop-left.at c.loop-left.left 128 c.from-ends.result c.loop-left.invariant (omega arith)
    (c.from-ends.ensures ∙ c.block_line_ends.ensures) c.if-ends-left.false

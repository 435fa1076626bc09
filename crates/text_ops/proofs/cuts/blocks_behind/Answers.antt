use Rattle.std.proofs.Common.{◌∙◌, arith}
use Rattle.text_ops.proofs.CutLemmas.{LeftBefore-block, LeftBefore-all}
use Rattle.text_ops.proofs.cuts.blocks_behind.Goals as goal

pub loop-left-init : goal.loop-left-init
loop-left-init c = LeftBefore-all c.args.text.now c.args.n c.requires

pub loop-left-preserved : goal.loop-left-preserved
loop-left-preserved c =
    LeftBefore-block c.args.text.now c.args.n c.loop-left.end c.loop-left.left 128 c.from-ends.result c.loop-left.invariant (omega arith)
    (c.from-ends.ensures ∙ c.block_line_ends.ensures) c.if-ends-left.false

use Rattle.std.proofs.Common.{◌-◌, length, arith}
use Rattle.desk_book.proofs.Looking.{none_less, of_graph_at, of_other_at}
use Rattle.desk_book.proofs.looks.last_of.Goals as goal

pub returns-then-asks-n : goal.returns-then-asks-n
returns-then-asks-n c = (
  of_graph_at c.args.asks.now c.args.graph (length c.args.asks.now - 1 - c.loop-back.back) (omega (arith, c.loop-back-test.true)) c.if-asks-n.true,
  λ k above below. c.loop-back.invariant k (omega (arith, above, c.loop-back-test.true)) below,
)

pub loop-back-preserved : goal.loop-back-preserved
loop-back-preserved c k above below =
    none_less c.args.asks.now c.args.graph (length c.args.asks.now - 1 - c.loop-back.back) (length c.args.asks.now)
    (λ j over under. c.loop-back.invariant j (omega (arith, over, c.loop-back-test.true)) under)
    (of_other_at c.args.asks.now c.args.graph (length c.args.asks.now - 1 - c.loop-back.back) (omega (arith, c.loop-back-test.true)) c.if-asks-n.false)
    k (omega (arith, above, c.loop-back-test.true)) below

pub returns : goal.returns
returns c k above below = c.loop-back.invariant k (omega (arith, c.loop-back-test.false)) below

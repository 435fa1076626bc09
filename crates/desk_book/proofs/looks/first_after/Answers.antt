use Rattle.std.proofs.Common.{◌+◌, arith}
use Rattle.desk_book.specs.inside.Looks.{IsOfGraph}
use Rattle.desk_book.proofs.Looking.{none_more, of_other_at}
use Rattle.desk_book.proofs.looks.first_after.Goals as goal

pub loop-n-preserved : goal.loop-n-preserved
loop-n-preserved c = none_more (IsOfGraph c.args.asks.now c.args.graph) (c.args.number + 1) c.loop-n.n c.loop-n.invariant
    (of_other_at c.args.asks.now c.args.graph c.loop-n.n c.loop-n-test.true c.if-asks-n.false)

pub returns : goal.returns
returns c k above below = c.loop-n.invariant k above (omega (arith, below, c.loop-n-test.false))

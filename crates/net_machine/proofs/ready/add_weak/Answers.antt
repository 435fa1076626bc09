use Rattle.net_machine.proofs.Readying.{weak_more}
use Rattle.net_machine.proofs.ready.add_weak.Goals as goal

pub loop-edge-preserved : goal.loop-edge-preserved
loop-edge-preserved c = λ journal counts.
    weak_more c.args.net.now journal c.args.task c.loop-edge.edge-index _ c.args.edges.now c.args.list.now _ _ c.loop-edge-test.true (c.tokens_left.ensures journal counts) (c.loop-edge.invariant journal counts) c.in_ok-add_row.ensures

use Rattle.graph_file.proofs.CycleLemmas.{net-more}
use Rattle.graph_file.proofs.cycles.use_net.Goals as goal

pub loop-user-preserved : goal.loop-user-preserved
loop-user-preserved c =
    net-more c.args.uses.now c.loop-user.user c.index-uses-user.result c.as_slice.result.now c.loop-user.builder c.add_uses.new.builder c.loop-user-test.true c.index-uses-user.is c.as_slice.ensures c.loop-user.invariant c.in_ok-add_uses.ensures

use Rattle.std.proofs.Common.{rules}
use Rattle.task_graph.proofs.net.Net.out_edges.Goals as goal

pub get-requires : goal.get-requires
get-requires c = (c.self.invariant.index.out c.args.task (search rules)).there

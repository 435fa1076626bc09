use Rattle.std.proofs.Common.{rules}
use Rattle.task_graph.proofs.net.Net.weak_in.Goals as goal

pub get-requires : goal.get-requires
get-requires c = (c.self.invariant.index.weak c.args.task (search rules)).there

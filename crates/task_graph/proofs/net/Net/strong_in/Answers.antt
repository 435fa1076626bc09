use Rattle.std.proofs.Common.{rules}
use Rattle.task_graph.proofs.net.Net.strong_in.Goals as goal

pub get-requires : goal.get-requires
get-requires c = (c.self.invariant.index.strong c.args.task (search rules)).there

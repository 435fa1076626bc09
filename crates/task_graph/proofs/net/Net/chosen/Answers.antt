use Rattle.task_graph.proofs.ChoiceLemmas.{out_edges_rise}
use Rattle.task_graph.proofs.net.Net.chosen.Goals as goal

pub choose-requires : goal.choose-requires
choose-requires c = rw c.out_edges.ensures (record { rising = out_edges_rise c.args.self.now c.args.task })

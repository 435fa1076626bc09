use Rattle.std.proofs.Common.{rules}
use Rattle.std.proofs.lemmas.List.{length_push}
use Rattle.task_graph.proofs.RowLemmas.{net_with_semaphore}
use Rattle.task_graph.proofs.builder.NetBuilder.semaphore.Goals as goal

pub invariant_of-self-2 : goal.invariant_of-self-2
invariant_of-self-2 c = rw c.in_ok-push.ensures.ok record {
  rows = net_with_semaphore _ _ c.self.invariant.rows (search rules) (search rules);
  tasks = c.self.invariant.tasks;
  edges = c.self.invariant.edges;
  sems = search (rules, length_push);
  room = c.self.invariant.room;
}

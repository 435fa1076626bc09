use Rattle.std.proofs.Common.{rules}
use Rattle.std.proofs.lemmas.List.{length_push}
use Rattle.task_graph.proofs.RowLemmas.{net_with_task}
use Rattle.task_graph.proofs.builder.NetBuilder.append_task.Goals as goal

pub invariant_of-self : goal.invariant_of-self
invariant_of-self c = record {
  rows = c.self.invariant.rows;
  tasks = c.self.invariant.tasks;
  edges = c.self.invariant.edges;
  sems = c.self.invariant.sems;
  room = c.make_room.ensures.keeps _ _ c.self.invariant.room;
}

pub invariant_of-self-2 : goal.invariant_of-self-2
invariant_of-self-2 c = rw c.in_ok-push.ensures.ok record {
  rows = net_with_task _ _ c.self.invariant.rows (rw c.self.view_is c.requires.fits) (search rules);
  tasks = search (rules, length_push);
  edges = c.self.invariant.edges;
  sems = c.self.invariant.sems;
  room = search (rules, length_push);
}

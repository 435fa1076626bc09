use Rattle.std.proofs.Common.{rules}
use Rattle.std.proofs.lemmas.List.{length_push}
use Rattle.task_graph.proofs.RowLemmas.{net_with_edge, plain_with_edge}
use Rattle.task_graph.proofs.builder.NetBuilder.edge.Goals as goal

pub invariant_of-self : goal.invariant_of-self
invariant_of-self c = record {
  rows = c.self.invariant.rows;
  tasks = c.self.invariant.tasks;
  edges = c.self.invariant.edges;
  sems = c.self.invariant.sems;
  room = c.make_room.ensures.keeps _ _ c.self.invariant.room;
}

pub invariant_of-self-2 : goal.invariant_of-self-2
invariant_of-self-2 c = rw c.in_ok-push.ensures.ok record {
  rows = net_with_edge _ _ c.self.invariant.rows (search rules) (search rules);
  tasks = c.self.invariant.tasks;
  edges = search (rules, length_push);
  sems = c.self.invariant.sems;
  room = search (rules, length_push);
}

pub returns-clause-plain : goal.returns-clause-plain
returns-clause-plain c = rw (c.in_ok-push.ensures.ok, ← c.self.view_is) (λ plain start. plain_with_edge _ _ start plain)

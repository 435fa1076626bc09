use Rattle.task_graph.proofs.RowLemmas.{plain_with_task}
use Rattle.task_graph.proofs.SemaphoreLemmas.{settled-fits, settled-plain}
use Rattle.task_graph.proofs.builder.NetBuilder.task.Goals as goal

pub append_task-requires-clause-fits : goal.append_task-requires-clause-fits
append_task-requires-clause-fits c = rw c.in_ok-row.ensures (settled-fits _ _)

pub returns-clause-plain : goal.returns-clause-plain
returns-clause-plain c =
    λ plain task.
    rw (c.in_ok-append_task.ensures.ok, c.in_ok-row.ensures)
    (plain_with_task c.args.self.now _ (settled-plain c.args.self.now _ (rw (c.as_slice-3.ensures, c.as_slice-4.ensures) task)) plain)

use Rattle.std.proofs.Common.{◌≡◌, ◌<◌, List, length, ap, ◌∙◌, arith}
use Rattle.task_graph.specs.NetRows.{NetRows}
use Rattle.task_graph.specs.declared.net.TaskRow.{TaskRow}
use Rattle.graph_plans.specs.PlanRows.{graph_rows}
use Rattle.graph_writer.proofs.WritingLemmas.{row-sems}
use Rattle.graph_writer.proofs.writer.task_value.Goals as goal

pub sems_value-requires-clause-within : goal.sems_value-requires-clause-within
sems_value-requires-clause-within c =
    let rows : List TaskRow = (graph_rows c.args.graph.now).net.tasks in
    let shown : c.tasks.result.now ≡ rows = c.tasks.ensures.rows ∙ ap (λ (net : NetRows). net.tasks) c.deref-2.ensures in
    let within : c.args.task < length rows = omega (arith, c.requires.within, c.requires.graph.task_count) in
    rw c.as_slice-3.ensures (row-sems (length c.args.graph.now.sem_names) c.args.task c.index-tasks-task.result rows c.tasks.result.now shown within c.index-tasks-task.is c.requires.graph.sems).0

pub sems_value-requires-2-clause-within : goal.sems_value-requires-2-clause-within
sems_value-requires-2-clause-within c =
    let rows : List TaskRow = (graph_rows c.args.graph.now).net.tasks in
    let shown : c.tasks.result.now ≡ rows = c.tasks.ensures.rows ∙ ap (λ (net : NetRows). net.tasks) c.deref-2.ensures in
    let within : c.args.task < length rows = omega (arith, c.requires.within, c.requires.graph.task_count) in
    rw c.as_slice-4.ensures (row-sems (length c.args.graph.now.sem_names) c.args.task c.index-tasks-task.result rows c.tasks.result.now shown within c.index-tasks-task.is c.requires.graph.sems).1

use Rattle.std.proofs.Common.{rules, length}
use Rattle.task_graph.specs.declared.net.TaskRow.{TaskRow}
use Rattle.graph_file.specs.inside.Drafts.{AreIds}
use Rattle.graph_file.proofs.NetLemmas.{not-refused}
use Rattle.graph_file.proofs.nets.add_task.Goals as goal

pub unreachable-requires : goal.unreachable-requires
unreachable-requires c =
    let row : TaskRow = record { shape = c.shape.result; takes = c.in_ok-takes.takes; puts = c.in_ok-puts.puts } in
    let sems = length c.args.builder.now.sems in
    let takes : AreIds sems row.takes = rw c.in_ok-takes.ensures (rw c.as_slice.ensures c.requires.units.takes) in
    let puts : AreIds sems row.puts = rw c.in_ok-puts.ensures (rw c.as_slice-2.ensures c.requires.units.puts) in
    not-refused c.args.builder.now row takes puts c.in-Err.field-0 c.requires.room (search rules) c.in-Err.ensures.answer.0

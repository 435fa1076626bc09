use Rattle.std.proofs.Common.{◌≡◌, length, ap, ◌∙◌, arith}
use Rattle.task_graph.specs.NetRows.{NetRows}
use Rattle.graph_file.proofs.NetLemmas.{task_rows-length}
use Rattle.graph_file.proofs.nets.net_with.Goals as goal

pub add_tasks-requires-clause-units : goal.add_tasks-requires-clause-units
add_tasks-requires-clause-units c =
    let same : length c.add_semaphores.new.builder.sems ≡ length c.args.sems.now = ap (λ (net : NetRows). length net.sems) c.in_ok-add_semaphores.ensures in
    rw same c.requires.units

pub add_edges-requires-clause-tasks : goal.add_edges-requires-clause-tasks
add_edges-requires-clause-tasks c =
    let ops = c.args.ops.now in
    let rows : length c.add_tasks.new.builder.tasks ≡ length ops =
    ap (λ (net : NetRows). length net.tasks) c.in_ok-add_tasks.ensures ∙ task_rows-length (length c.add_semaphores.new.builder.sems) ops c.args.tasks.now c.requires.each in
    omega (arith, rows, c.requires.tasks)

pub add_edges-requires-clause-among : goal.add_edges-requires-clause-among
add_edges-requires-clause-among c =
    let ops = c.args.ops.now in
    let rows : length c.add_tasks.new.builder.tasks ≡ length ops =
    ap (λ (net : NetRows). length net.tasks) c.in_ok-add_tasks.ensures ∙ task_rows-length (length c.add_semaphores.new.builder.sems) ops c.args.tasks.now c.requires.each in
    rw rows c.requires.among

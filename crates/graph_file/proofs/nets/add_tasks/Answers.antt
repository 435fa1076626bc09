use Rattle.std.proofs.Common.{◌≡◌, ℕ, length, sym, subst, ap, ◌∙◌, arith}
use Rattle.task_graph.specs.NetRows.{NetRows}
use Rattle.graph_file.specs.inside.Drafts.{NamesOnce}
use Rattle.graph_file.proofs.NetLemmas.{net_with-more, rows-before, units-at}
use Rattle.graph_file.proofs.nets.add_tasks.Goals as goal

pub add_task-requires-clause-room : goal.add_task-requires-clause-room
add_task-requires-clause-room c =
    let sems = length c.args.builder.now.sems in
    let rows : length c.loop-number.builder.tasks ≡ c.loop-number.number =
    ap (λ (net : NetRows). length net.tasks) c.loop-number.invariant ∙ rows-before sems c.args.ops.now c.args.tasks.now c.loop-number.number c.loop-number-test.true c.requires.each in
    omega (arith, rows, c.loop-number-test.true, c.requires.room)

pub add_task-requires-clause-units : goal.add_task-requires-clause-units
add_task-requires-clause-units c =
    let same = ap (λ (net : NetRows). length net.sems) c.loop-number.invariant in
    let task = c.index-tasks-number.result in
    subst (λ (sems : ℕ). NamesOnce sems task) (sym same)
    (units-at (length c.args.builder.now.sems) c.args.tasks.now c.loop-number.number task (omega (arith, c.loop-number-test.true, c.requires.each)) c.index-tasks-number.is c.requires.units)

pub loop-number-preserved : goal.loop-number-preserved
loop-number-preserved c =
    net_with-more c.args.builder.now.sems c.args.ops.now c.args.tasks.now c.loop-number.number c.index-ops-number.result c.index-tasks-number.result c.loop-number.builder c.add_task.new.builder
    c.loop-number-test.true c.requires.each c.index-ops-number.is c.index-tasks-number.is c.loop-number.invariant c.in_ok-add_task.ensures

use Rattle.graph_drafts.specs.inside.Reading.{strings}
use Rattle.graph_file.proofs.UseLemmas.{used-more}
use Rattle.graph_file.proofs.uses.used_by_tasks.Goals as goal

pub loop-task-preserved : goal.loop-task-preserved
loop-task-preserved c =
    used-more (strings c.args.modules.now.names) c.args.tasks.now c.loop-task.task-index c.task-item.result c.loop-task.used c.add_used.new.used c.loop-task-test.true c.task-item.is c.loop-task.invariant c.in_ok-add_used.ensures

use Rattle.net_machine.proofs.Readying.{each_more}
use Rattle.net_machine.proofs.ready.ready_list.Goals as goal

pub loop-task-preserved : goal.loop-task-preserved
loop-task-preserved c = λ journal counts.
    each_more c.args.net.now journal c.loop-task.task _ _ (c.loop-task.invariant journal counts) (c.in_ok-add_task.ensures journal counts)

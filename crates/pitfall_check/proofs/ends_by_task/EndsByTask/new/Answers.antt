use Rattle.pitfall_check.proofs.EndLemmas.{AreListedBelow-none}
use Rattle.pitfall_check.proofs.ends_by_task.EndsByTask.new.Goals as goal

pub loop-task-init : goal.loop-task-init
loop-task-init c = AreListedBelow-none c.args.way c.args.net.now _ c.in_ok-lists.ensures.bounds c.in_ok-lists.ensures.ends

use Rattle.pitfall_check.specs.inside.EndLists.{AreListedBelow}
use Rattle.pitfall_check.proofs.ends_by_task.EndsByTask.new.Given as goal

abbrev pub invariant-loop-task : goal.invariant-loop-task
invariant-loop-task l = AreListedBelow l.way l.net l.lists l.task

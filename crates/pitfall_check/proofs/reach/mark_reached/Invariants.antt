use Rattle.pitfall_check.specs.inside.ReachMarks.{MarksReached}
use Rattle.pitfall_check.proofs.reach.mark_reached.Given as goal

abbrev pub invariant-loop-task : goal.invariant-loop-task
invariant-loop-task l = MarksReached l.net l.marks.items l.task

use Rattle.std.proofs.Common.{sym, subst, ◌∙◌, ◌+◌}
use Rattle.pitfall_check.specs.inside.ReachMarks.{MarksReached}
use Rattle.pitfall_check.proofs.PlaceLemmas.{written_back}
use Rattle.pitfall_check.proofs.ReachLemmas.{MarksReached-begin}
use Rattle.pitfall_check.proofs.reach.mark_reached.Goals as goal

pub loop-task-init : goal.loop-task-init
loop-task-init c = MarksReached-begin c.args.net.now _ _ (c.in_ok-marks.ensures.items_if_clones_equal (λ y same. same)) c.tasks-count.ensures.rows

pub loop-task-preserved : goal.loop-task-preserved
loop-task-preserved c =
    subst (λ marks. MarksReached c.args.net.now marks (c.loop-task.task + 1))
    (sym (written_back _ c.mark_from.new.marks _ (c.mark_from.auto.marks ∙ c.deref_mut.ensures.len)))
    c.in_ok-mark_from.ensures

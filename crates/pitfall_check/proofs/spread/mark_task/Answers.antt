use Rattle.std.proofs.Common.{◌≡◌, sym, subst, slice_set}
use Rattle.pitfall_check.specs.inside.MarkSpread.{Adds}
use Rattle.pitfall_check.proofs.SpreadLemmas.{Adds-one}
use Rattle.pitfall_check.proofs.spread.mark_task.Goals as goal

pub returns-in_ok-push-clause-adds : goal.returns-in_ok-push-clause-adds
returns-in_ok-push-clause-adds c =
    subst (Adds (λ t. t ≡ c.args.task) c.args.mark c.args.marks.now c.args.queue.now.items (slice_set c.args.marks.now c.args.task c.args.mark)) (sym c.in_ok-push.ensures.items)
    (Adds-one c.args.mark c.args.marks.now c.args.queue.now.items c.args.task c.requires.task c.if-marks-task-eq0.true c.requires.mark)

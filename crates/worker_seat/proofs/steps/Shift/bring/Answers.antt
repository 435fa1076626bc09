use Rattle.worker_seat.proofs.ToldLemmas.{told_with}
use Rattle.worker_seat.proofs.steps.Shift.bring.Goals as goal

pub returns-in-Resumed-clause-told : goal.returns-in-Resumed-clause-told
returns-in-Resumed-clause-told g c =
    told_with g.X.Watch.told _ c.args.work.now c.bring_frame.new.work c.resume.new.work _ _ c.in_ok-closed.ensures.told c.resume.ensures.spans

pub returns-in-Went-clause-told : goal.returns-in-Went-clause-told
returns-in-Went-clause-told g c =
    told_with g.X.Watch.told _ c.args.work.now c.bring_frame.new.work c.settle.new.work _ _ c.in_ok-closed.ensures.told c.settle.ensures.spans

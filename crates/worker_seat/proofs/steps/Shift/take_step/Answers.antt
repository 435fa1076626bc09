use Rattle.std.proofs.Common.{refl}
use Rattle.worker_seat.proofs.ToldLemmas.{told_step}
use Rattle.worker_seat.proofs.WorkLemmas.{after_step, opened_by_step}
use Rattle.worker_seat.proofs.steps.Shift.take_step.Goals as goal

pub returns-clause-work : goal.returns-clause-work
returns-clause-work g c =
    after_step c.args.self.now.number.now g.J.Job.meaning c.args.release c.args.work.now _ c.in_ok-stepped.stepped c.requires.work c.requires.turned c.requires.within refl refl c.in_ok-stepped.ensures.ok

pub returns-clause-opened : goal.returns-clause-opened
returns-clause-opened g c =
    opened_by_step c.args.self.now.number.now g.J.Job.meaning c.args.release _ _ c.in_ok-stepped.stepped c.requires.within c.in_ok-stepped.ensures.ok

pub returns-clause-told : goal.returns-clause-told
returns-clause-told g c =
    told_step g.X.Watch.told g.J.Job.meaning c.args.release c.args.work.now record { backlog = c.step.new.backlog; frame = c.args.work.now.frame; teller = c.args.work.now.teller } c.in_ok-stepped.stepped _ _ refl c.in_ok-stepped.ensures.ok c.in_ok-tell_step.ensures

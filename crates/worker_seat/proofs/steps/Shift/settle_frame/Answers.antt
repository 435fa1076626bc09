use Rattle.std.proofs.Common.{refl}
use Rattle.worker_seat.proofs.ToldLemmas.{spans_settled}
use Rattle.worker_seat.proofs.WorkLemmas.{after_settling, goes_after_settling}
use Rattle.worker_seat.proofs.steps.Shift.settle_frame.Goals as goal

pub returns-clause-work : goal.returns-clause-work
returns-clause-work g c =
    after_settling c.args.self.now.number.now c.args.work.now _ c.settle.result c.requires.work refl refl c.settle.ensures.ok

pub returns-clause-goes : goal.returns-clause-goes
returns-clause-goes g c =
    goes_after_settling c.args.self.now.number.now c.args.work.now _ c.settle.result c.requires.work c.requires.some refl c.settle.ensures.ok

pub returns-clause-spans : goal.returns-clause-spans
returns-clause-spans g c = spans_settled c.args.work.now record { backlog = c.settle.new.backlog; frame = c.args.work.now.frame; teller = c.args.work.now.teller } c.settle.result c.requires.brought refl c.settle.ensures.ok

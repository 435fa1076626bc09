use Rattle.std.proofs.Common.{refl}
use Rattle.worker_seat.proofs.ToldLemmas.{told_bringing}
use Rattle.worker_seat.proofs.WorkLemmas.{leaves_work, one_run, teller_within}
use Rattle.worker_seat.proofs.steps.Shift.bring_frame.Goals as goal

pub bring-requires-clause-teller : goal.bring-requires-clause-teller
bring-requires-clause-teller g c κs within =
    teller_within c.args.self.now.number.now.frames c.args.work.now.backlog.frames c.args.work.now.teller (one_run c.args.self.now.number.now c.args.work.now c.requires.work c.requires.some) c.requires.work.teller

pub returns-clause-leaves : goal.returns-clause-leaves
returns-clause-leaves g c =
    leaves_work c.args.self.now.number.now g.J.Job.meaning c.args.self.now.run.now.job c.args.self.now.run.now.book.name c.args.work.now _ _ c.args.self.now.of_run c.requires.work c.requires.some refl
    c.in_ok-state.ensures.teller c.in_ok-state.ensures.ok

pub returns-clause-told : goal.returns-clause-told
returns-clause-told g c =
    told_bringing g.X.Watch.told g.J.Job.meaning c.args.work.now record { backlog = c.bring.new.backlog; frame = c.args.work.now.frame; teller = c.bring.new.teller } _ _ _ _ c.in_ok-state.ensures.told c.in_ok-state.ensures.ok c.in_ok-tell_bringing.ensures

use Rattle.std.proofs.Common.{◌∙◌, subst}
use Rattle.std.specs.Prelude.{IfSome}
use Rattle.worker_seat.specs.inside.Runs.{IsItemOf}
use Rattle.worker_seat.proofs.ToldLemmas.{told_then}
use Rattle.worker_seat.proofs.WorkLemmas.{turned_as}
use Rattle.worker_seat.proofs.steps.Shift.step_on.Goals as goal

pub step-requires-clause-turned : goal.step-requires-clause-turned
step-requires-clause-turned g c κs within =
    turned_as c.args.self.now.number.now c.loop.next.frame.frames c.loop.next.release.frames _ c.in_ok-turn_to.ensures.turned c.loop.invariant.item.frame

pub returns-in-None-2-clause-told : goal.returns-in-None-2-clause-told
returns-in-None-2-clause-told g c =
    told_then g.X.Watch.told c.args.work.now c.turn_to.new.work c.step.new.work _ _ _
    (told_then g.X.Watch.told c.args.work.now c.loop.work c.turn_to.new.work _ _ _ c.loop.invariant.told c.in_ok-turn_to.ensures.told) c.in_ok-made.ensures.told

pub returns-then-is_closed-clause-told : goal.returns-then-is_closed-clause-told
returns-then-is_closed-clause-told g c =
    told_then g.X.Watch.told c.args.work.now c.turn_to.new.work c.step.new.work _ _ _
    (told_then g.X.Watch.told c.args.work.now c.loop.work c.turn_to.new.work _ _ _ c.loop.invariant.told c.in_ok-turn_to.ensures.told) c.in_ok-made.ensures.told

pub loop-preserved : goal.loop-preserved
loop-preserved g c = record {
  owner = (c.step.ensures.owner.0 ∙ c.turn_to.ensures.owner.0 ∙ c.loop.invariant.owner.0, c.step.ensures.owner.1 ∙ c.turn_to.ensures.owner.1 ∙ c.loop.invariant.owner.1);
  item = subst (λ made. IfSome made (IsItemOf c.args.self.now.number.now)) c.in-Some-2.is c.in_ok-made.ensures.made;
  work = c.in_ok-made.ensures.work;
  told = told_then g.X.Watch.told c.args.work.now c.turn_to.new.work c.step.new.work _ _ _
      (told_then g.X.Watch.told c.args.work.now c.loop.work c.turn_to.new.work _ _ _ c.loop.invariant.told c.in_ok-turn_to.ensures.told) c.in_ok-made.ensures.told;
}

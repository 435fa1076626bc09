use Rattle.std.proofs.Common.{◌∙◌}
use Rattle.worker_seat.proofs.steps.Shift.work.Goals as goal

pub loop-preserved-in-Continue-1 : goal.loop-preserved-in-Continue-1
loop-preserved-in-Continue-1 g c = record {
  owner = (
    c.step_item.ensures.owner.0 ∙ c.take.ensures.same.0 ∙ c.loop.invariant.owner.0,
    c.step_item.ensures.owner.1 ∙ c.take.ensures.same.1 ∙ c.loop.invariant.owner.1,
  );
  work = c.in_ok-step_item-in-Some-take.ensures.work;
  told = λ before was. c.in_ok-step_item-in-Some-take.ensures.told before (c.loop.invariant.told before was);
}

pub loop-preserved : goal.loop-preserved
loop-preserved g c = record {
  owner = (c.rest.ensures.owner.0 ∙ c.take.ensures.same.0 ∙ c.loop.invariant.owner.0, c.rest.ensures.owner.1 ∙ c.take.ensures.same.1 ∙ c.loop.invariant.owner.1);
  work = c.in_ok-rest-in-None-take.ensures.work;
  told = λ before was. c.in_ok-rest-in-None-take.ensures.told before (c.loop.invariant.told before was);
}

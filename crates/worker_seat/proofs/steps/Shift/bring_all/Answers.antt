use Rattle.std.proofs.Common.{◌∙◌}
use Rattle.worker_seat.proofs.ToldLemmas.{told_then}
use Rattle.worker_seat.proofs.steps.Shift.bring_all.Goals as goal

pub loop-preserved : goal.loop-preserved
loop-preserved g c = record {
  owner = (c.bring.ensures.owner.0 ∙ c.loop.invariant.owner.0, c.bring.ensures.owner.1 ∙ c.loop.invariant.owner.1);
  work = c.in_ok-bring.ensures.work;
  told = told_then g.X.Watch.told c.args.work.now c.loop.work c.bring.new.work _ _ _ c.loop.invariant.told c.in_ok-bring.ensures.told;
}

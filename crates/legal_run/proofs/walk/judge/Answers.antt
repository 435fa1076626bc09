use Rattle.std.proofs.Common.{◌∙◌}
use Rattle.legal_run.proofs.Walking.{walked}
use Rattle.legal_run.proofs.walk.judge.Goals as goal

pub loop-place-init : goal.loop-place-init
loop-place-init c = record { at = c.in_ok-walk.ensures.at c.args.limit; room = c.in_ok-walk.ensures.room }

pub loop-place-preserved : goal.loop-place-preserved
loop-place-preserved c = record {
  at = walked c.args.net.now c.args.limit c.loop-place.place c.as_slice-entries.result.now c.step.new.self c.loop-place-test.true c.in_default.ensures.walks;
  room = c.step.ensures.room ∙ c.loop-place.invariant.room;
}

use Rattle.std.proofs.Common.{arith}
use Rattle.async_trials.specs.Sides.{IsSideOf}
use Rattle.async_trials.proofs.ManyPasses.{all_written}
use Rattle.async_trials.proofs.crowd_runs.run_of_two_callers.Goals as goal

pub finish-requires-after_bounds : goal.finish-requires-after_bounds
finish-requires-after_bounds g c κs within =
    let all = all_written (IsSideOf c.new-crowd.result.book) c.push_reserved-2.new.self.len c.work_together.new.sides c.push_reserved-2.new.self.items c.as_mut_slice.result.now
    (omega (arith, c.push_reserved-2.new.self.ok.0)) c.as_mut_slice.ensures.value c.work_together.auto.sides c.work_together.ensures in
    let callers = c.in-Some-Callers.ensures c.new-crowd.result.book all in
    rw c.in-Some-Callers.field-0-is at callers

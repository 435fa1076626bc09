use Rattle.async_tasks.specs.AsyncBooks.{IsSeatOf}
use Rattle.async_trials.proofs.crowds.Crowd.step_all.Given as goal

abbrev pub invariant-loop : goal.invariant-loop
invariant-loop g l = IsSeatOf l.self.book l.seat

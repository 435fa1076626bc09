use Rattle.std.proofs.Common.{◌≡◌}
use Rattle.async_tasks.specs.AsyncBooks.{IsPassOf}
use Rattle.async_trials.proofs.crowds.Crowd.add_all.Given as goal

abbrev pub invariant-loop : goal.invariant-loop
invariant-loop g l = IsPassOf l.self.book l.pass × (l.pass.caller ≡ l.initial.pass.caller)

use Rattle.std.proofs.Common.{◌≡◌, ℕ, ◌<◌, true}
use Rattle.async_tasks.specs.inside.Ready.{is_over}
use Rattle.async_tasks.proofs.inputs.first_open.Given as goal

abbrev pub invariant-loop-task : goal.invariant-loop-task
invariant-loop-task g l = (t : ℕ) → t < l.task → is_over l.stages t ≡ true

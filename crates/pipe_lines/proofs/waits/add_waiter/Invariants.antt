use Rattle.std.proofs.Common.{take}
use Rattle.std.specs.Prelude.{◌==◌}
use Rattle.std.specs.List.{list_any}
use Rattle.pipe_lines.specs.inside.Waiting.{GainsWaiter}
use Rattle.pipe_lines.proofs.waits.add_waiter.Given as goal

abbrev pub invariant-loop-place : goal.invariant-loop-place
invariant-loop-place l = GainsWaiter l.fn.waiters.items l.waiters.items l.fn.token (λ t. list_any (λ target. target == t) (take l.place l.fn.targets))

use Rattle.std.proofs.Common.{◌≡◌, [], replicate}
use Rattle.pipe_lines.proofs.waits.no_waiters.Given as goal

abbrev pub invariant-loop-token : goal.invariant-loop-token
invariant-loop-token l = l.waiters.items ≡ replicate l._token []

use Rattle.pipe_lines.specs.inside.Waiting.{AreWaiters}
use Rattle.pipe_lines.proofs.waits.waiters_of.Given as goal

abbrev pub invariant-loop-token : goal.invariant-loop-token
invariant-loop-token l = AreWaiters l.fn.tokens l.fn.rows l.token l.waiters.items

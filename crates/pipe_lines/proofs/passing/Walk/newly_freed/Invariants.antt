use Rattle.std.proofs.Common.{◌≡◌, take}
use Rattle.std.specs.Prelude.{filter}
use Rattle.pipe_lines.specs.inside.Waiting.{rows_of}
use Rattle.pipe_lines.specs.inside.Walks.{is_waiting}
use Rattle.pipe_lines.proofs.passing.Walk.newly_freed.Given as goal

abbrev pub invariant-loop-waiter : goal.invariant-loop-waiter
invariant-loop-waiter l = l.freed ≡ filter (is_waiting (rows_of l.fn.waits) l.fn.self.passed l.fn.self.looked) (take l.waiter-index l.fn.waiters)

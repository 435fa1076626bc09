use Rattle.std.proofs.Common.{◌≡◌, ℕ, ◌<◌, ◌≤◌, false}
use Rattle.pipe_lines.specs.PassOrder.{is_free}
use Rattle.pipe_lines.specs.inside.Waiting.{rows_of}
use Rattle.pipe_lines.proofs.passing.Walk.next_new.Given as goal

abbrev pub invariant-loop-token : goal.invariant-loop-token
invariant-loop-token l = (k : ℕ) → l.fn.self.looked ≤ k → k < l.token → is_free (rows_of l.fn.waits) l.fn.self.passed k ≡ false

use Rattle.std.proofs.Common.{◌≡◌, ◌-◌, ◌≤◌, length}
use Rattle.pipe_lines.specs.PassOrder.{passes, pass_order}
use Rattle.pipe_lines.specs.inside.Waiting.{rows_of, tokens_of}
use Rattle.pipe_lines.specs.inside.Walks.{IsWalk}
use Rattle.pipe_lines.proofs.passing.pass_all.Given as goal

abbrev pub invariant-loop-place : goal.invariant-loop-place
invariant-loop-place l = record {
  walk : IsWalk l.fn.waits l.walk;
  few : length l.walk.passed ≤ l._place;
  left : passes (tokens_of l.fn.waits) (rows_of l.fn.waits) (tokens_of l.fn.waits - l._place) l.walk.passed ≡ pass_order (tokens_of l.fn.waits) (rows_of l.fn.waits);
}

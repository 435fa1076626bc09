use Rattle.std.proofs.Common.{◌≢◌, ℕ, ◌<◌, length, get_or}
use Rattle.pipe_lines.specs.declared.deferral.DeferRow.{DeferRow}
use Rattle.pipe_lines.proofs.deferral.are_apart.Given as goal

abbrev pub invariant-loop-place : goal.invariant-loop-place
invariant-loop-place l = (i j : ℕ) (d : DeferRow) → i < l.place → i < j → j < length l.fn.rows → (get_or l.fn.rows i d).token ≢ (get_or l.fn.rows j d).token

use Rattle.std.proofs.Common.{◌≡◌, ℕ, ◌<◌, false, true, get_or}
use Rattle.pipe_lines.proofs.passing.first_unmarked.Given as goal

abbrev pub invariant-loop-token : goal.invariant-loop-token
invariant-loop-token l = (k : ℕ) → k < l.token → get_or l.fn.marks k false ≡ true

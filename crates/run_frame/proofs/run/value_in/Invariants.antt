use Rattle.std.proofs.Common.{◌≡◌, drop}
use Rattle.run_frame.specs.Runs.{value_at}
use Rattle.run_frame.proofs.run.value_in.Given as goal

abbrev pub invariant-loop-row : goal.invariant-loop-row
invariant-loop-row g l = value_at l.rows l.place ≡ value_at (drop l.row-index l.rows) l.place

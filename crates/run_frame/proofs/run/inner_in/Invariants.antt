use Rattle.std.proofs.Common.{◌≡◌, drop}
use Rattle.run_frame.specs.Runs.{inner_in}
use Rattle.run_frame.proofs.run.inner_in.Given as goal

abbrev pub invariant-loop-row : goal.invariant-loop-row
invariant-loop-row g l = inner_in l.rows l.place ≡ inner_in (drop l.row-index l.rows) l.place

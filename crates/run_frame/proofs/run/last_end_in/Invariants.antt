use Rattle.std.proofs.Common.{◌≡◌}
use Rattle.run_frame.specs.LastEnds.{last_before}
use Rattle.run_frame.proofs.run.last_end_in.Given as goal

abbrev pub invariant-loop-place : goal.invariant-loop-place
invariant-loop-place l = l.last ≡ last_before l.entries l.task l.place

-- That a Many gives different edges computes once `IsDistinct` is opened.
use Rattle.std.proofs.Common.{rules}
use Rattle.std.specs.List.{IsDistinct}
use Rattle.claims.proofs.finished_runs.routed_run.Goals as goal

pub returns : goal.returns
unfolding IsDistinct
returns c = search rules

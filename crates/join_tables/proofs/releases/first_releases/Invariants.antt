use Rattle.std.proofs.Common.{◌≡◌}
use Rattle.join_tables.specs.inside.FirstReleases.{duties_of, duties_before}
use Rattle.join_tables.proofs.releases.first_releases.Given as goal

abbrev pub invariant-loop-task : goal.invariant-loop-task
invariant-loop-task l = duties_of l.releases.items ≡ duties_before l.net l.task

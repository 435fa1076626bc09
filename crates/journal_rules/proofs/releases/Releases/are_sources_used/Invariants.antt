use Rattle.std.proofs.Common.{ℕ, ◌<◌}
use Rattle.journal_rules.specs.inside.Releases.{SourceUsed}
use Rattle.journal_rules.proofs.releases.Releases.are_sources_used.Given as goal

abbrev pub invariant-loop-task : goal.invariant-loop-task
invariant-loop-task l = (t : ℕ) → t < l.task → SourceUsed l.net l.self t

use Rattle.std.proofs.Common.{ℕ, ◌<◌}
use Rattle.journal_rules.specs.inside.Releases.{RoundsUsed}
use Rattle.journal_rules.proofs.releases.Releases.are_rounds_used.Given as goal

abbrev pub invariant-loop-task : goal.invariant-loop-task
invariant-loop-task l = (t : ℕ) → t < l.task → RoundsUsed l.self t

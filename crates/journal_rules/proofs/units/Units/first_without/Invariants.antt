use Rattle.std.proofs.Common.{ℕ, ◌<◌, slice_index}
use Rattle.journal_rules.specs.inside.Units.{HasUnitLeft}
use Rattle.journal_rules.proofs.units.Units.first_without.Given as goal

abbrev pub invariant-loop-sem : goal.invariant-loop-sem
invariant-loop-sem l = (k : ℕ) → k < l.sem-index → HasUnitLeft l.self.counts.items l.maxima (slice_index l.sems k)

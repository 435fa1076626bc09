use Rattle.std.proofs.Common.{ℕ, ◌<◌, slice_index}
use Rattle.journal_rules.specs.inside.Units.{IsOut}
use Rattle.journal_rules.proofs.units.Units.first_not_out.Given as goal

abbrev pub invariant-loop-sem : goal.invariant-loop-sem
invariant-loop-sem l = (k : ℕ) → k < l.sem-index → IsOut l.self.counts.items (slice_index l.sems k)

use Rattle.std.proofs.Common.{◌≢◌, ℕ, ◌<◌, get_or}
use Rattle.pitfall_check.specs.declared.finding.Finding.{Finding}
use Rattle.pitfall_check.specs.declared.finding.Finding.TheVariants.{StrongCycle}
use Rattle.graph_file.proofs.cycles.first_cycle.Given as goal

abbrev pub invariant-loop-finding : goal.invariant-loop-finding
invariant-loop-finding l = (k m : ℕ) (d : Finding) → k < l.finding-index → get_or l.listed k d ≢ StrongCycle m

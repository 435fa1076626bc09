use Rattle.std.proofs.Common.{◌≡◌, drop}
use Rattle.nested_runs.specs.Reasons.{first_stuck}
use Rattle.nested_runs.proofs.faults.first_stuck.Given as goal

abbrev pub invariant-loop-entry : goal.invariant-loop-entry
invariant-loop-entry l = first_stuck l.fn.journal ≡ first_stuck (drop l.entry-index l.fn.journal)

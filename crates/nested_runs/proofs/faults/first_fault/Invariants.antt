use Rattle.std.proofs.Common.{◌≡◌, drop}
use Rattle.nested_runs.specs.Reasons.{first_fault, first_fault_from}
use Rattle.nested_runs.proofs.faults.first_fault.Given as goal

abbrev pub invariant-loop-place : goal.invariant-loop-place
invariant-loop-place l = first_fault l.fn.journal ≡ first_fault_from l.place (drop l.place l.fn.journal)

use Rattle.std.proofs.Common.{◌*◌, ◌+◌, ◌^◌}
use Rattle.pitfall_check.specs.inside.PartialFindings.{AreFindingsBelow}
use Rattle.pitfall_check.proofs.findings.add_many_conditions.Given as goal

abbrev pub invariant-loop-task : goal.invariant-loop-task
invariant-loop-task l = AreFindingsBelow l.net (2 * 2 ^ 32 + l.task) l.findings

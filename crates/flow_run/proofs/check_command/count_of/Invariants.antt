use Rattle.std.proofs.Common.{◌≡◌, take}
use Rattle.flow_run.specs.Checks.{finding_count}
use Rattle.flow_run.proofs.check_command.count_of.Given as goal

abbrev pub invariant-loop-on : goal.invariant-loop-on
invariant-loop-on l = l.count ≡ finding_count (take l.on-index l.found)

use Rattle.std.proofs.Common.{◌≡◌, take}
use Rattle.flow_run.specs.Profiles.{spans_of_all}
use Rattle.flow_run.proofs.profile_command.spans_of_all.Given as goal

abbrev pub invariant-loop-run : goal.invariant-loop-run
invariant-loop-run l = l.total ≡ spans_of_all (take l.run-index l.runs)

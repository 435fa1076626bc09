use Rattle.std.proofs.Common.{◌≡◌, map, take}
use Rattle.profile_table.specs.Profiles.{profile_of}
use Rattle.run_frame.specs.NestedRule.{journal_of}
use Rattle.flow_run.proofs.profile_command.table_of.Given as goal

abbrev pub invariant-loop-run : goal.invariant-loop-run
invariant-loop-run l = l.table ≡ profile_of l.tasks (map journal_of (take l.run-index l.runs))

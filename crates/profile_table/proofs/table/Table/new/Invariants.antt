use Rattle.std.proofs.Common.{◌≡◌, replicate}
use Rattle.std.specs.Vec.{vec_capacity}
use Rattle.profile_table.specs.Profiles.{no_counts}
use Rattle.profile_table.proofs.table.Table.new.Given as goal

abbrev pub invariant-loop-task : goal.invariant-loop-task
invariant-loop-task l = (l.rows.items ≡ replicate l._task no_counts) × (vec_capacity l.rows ≡ l.tasks)

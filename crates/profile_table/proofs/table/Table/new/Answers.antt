use Rattle.std.proofs.Common.{◌≡◌, ◌∙◌, ap, replicate, List, arith}
use Rattle.profile_table.specs.Profiles.{Profile, no_counts}
use Rattle.profile_table.specs.declared.row.TableRow.{TableRow}
use Rattle.profile_table.proofs.CountingLemmas.{nothing_counted, zeros_at_most}
use Rattle.profile_table.proofs.table.Table.new.Goals as goal

pub invariant_of-result : goal.invariant_of-result
invariant_of-result c = rw c.loop-task.invariant.0 (zeros_at_most c.loop-task._task)

pub returns : goal.returns
returns c =
    let empty : List TableRow → Profile = λ rows. record { rows = rows; entries = 0 } in
    let all : c.loop-task._task ≡ c.args.tasks = omega arith in
    ap empty (c.loop-task.invariant.0 ∙ ap (λ n. replicate n no_counts) all ∙ nothing_counted c.args.tasks)

use Rattle.std.proofs.Common.{[], ap, sym, subst}
use Rattle.std.specs.Option.{option_map_or}
use Rattle.std.proofs.lemmas.Option.{slice_get_past}
use Rattle.task_graph.specs.Net.{AreSemaphoresOf, IsTaskOf}
use Rattle.task_graph.specs.declared.net.TaskRow.{TaskRow}
use Rattle.semaphore_turns.proofs.rows.takes_of.Goals as goal

pub returns-in-Some-clause-sems : goal.returns-in-Some-clause-sems
returns-in-Some-clause-sems c =
    let net = c.args.net.now in
    let row = c.in-Some.row.now in
    let found = rw c.tasks.ensures.rows at c.in-Some.ensures.lookup in
    subst (AreSemaphoresOf net) (sym c.as_slice.ensures) (subst (IsTaskOf net) (sym found.1) (c.tasks.ensures.well_formed.tasks c.args.task row found.3.0)).takes

pub returns-in-None-clause-list : goal.returns-in-None-clause-list
returns-in-None-clause-list c =
    let past = (rw c.tasks.ensures.rows at c.in-None.ensures.lookup).3 in
    ap (λ o. option_map_or (λ (row : TaskRow). row.takes) o []) (sym (slice_get_past c.args.net.now.tasks c.args.task past))

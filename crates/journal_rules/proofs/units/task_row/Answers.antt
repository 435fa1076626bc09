use Rattle.std.proofs.Common.{ap, sym, ◌∙◌, subst, Some}
use Rattle.std.proofs.lemmas.Option.{slice_get-get_or}
use Rattle.task_graph.specs.Net.{IsTaskOf}
use Rattle.journal_rules.proofs.units.task_row.Goals as goal

pub returns : goal.returns
returns c =
    let row = c.index-tasks-task.result in
    let is = rw c.tasks.ensures.rows at c.index-tasks-task.is in
    record {
      stands = slice_get-get_or c.args.net.now.tasks c.args.task row c.requires ∙ ap Some (sym is);
      well_formed = subst (IsTaskOf c.args.net.now) (sym is) (c.tasks.ensures.well_formed.tasks c.args.task row c.requires);
    }

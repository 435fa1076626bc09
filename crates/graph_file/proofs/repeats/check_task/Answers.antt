use Rattle.std.proofs.Common.{◌≡◌, true, rules, refl}
use Rattle.graph_drafts.specs.FileText.{puts_field}
use Rattle.graph_drafts.specs.inside.Reading.{named_task}
use Rattle.graph_file.proofs.RepeatLemmas.{once-put, once-took}
use Rattle.graph_file.proofs.repeats.check_task.Goals as goal

pub returns-in-Err : goal.returns-in-Err
returns-in-Err c =
    let so : c.args.new ≡ true = search rules in
    once-took c.args.scope c.args.version c.args.number c.args.new (named_task c.args.task.now) c.task_spot-spot.result c.takes_field.result.now (puts_field c.args.version) so c.task_spot-spot.ensures c.takes_field.ensures refl
    c.in-Err.refusal (rw c.as_slice.ensures at c.in-Err.ensures)

pub returns : goal.returns
returns c =
    let so : c.args.new ≡ true = search rules in
    once-put c.args.scope c.args.version c.args.number c.args.new (named_task c.args.task.now) c.task_spot-spot.result c.takes_field.result.now c.puts_field.result.now so c.task_spot-spot.ensures c.takes_field.ensures c.puts_field.ensures
    c.check_list-2.result (rw c.as_slice.ensures at c.in_default.ensures) (rw c.as_slice-2.ensures at c.check_list-2.ensures)

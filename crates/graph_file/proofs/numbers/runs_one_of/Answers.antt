use Rattle.std.proofs.Common.{is_some, sym, ap, ◌∙◌}
use Rattle.graph_file.specs.PlanText.{runs_one_of}
use Rattle.graph_drafts.specs.inside.Reading.{file_op_row, strings}
use Rattle.graph_file.proofs.numbers.runs_one_of.Goals as goal

pub returns-in-Runs : goal.returns-in-Runs
returns-in-Runs c =
    (rw c.as_bytes.ensures.value at c.contains_key.ensures) ∙ ap is_some (c.requires c.in-Runs.name.now)
    ∙ sym (ap (λ op. runs_one_of (strings c.args.modules.now.names) (file_op_row op)) c.in-Runs.is)

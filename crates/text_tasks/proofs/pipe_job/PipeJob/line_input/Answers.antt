use Rattle.std.proofs.Common.{ap, ◌∙◌}
use Rattle.task_graph.specs.Net.{strong_in}
use Rattle.pipe_lines.specs.PipeNet.{along_pipes, pipe_net}
use Rattle.text_tasks.specs.PipeWork.{PipeWork}
use Rattle.text_tasks.specs.inside.Finding.{founds}
use Rattle.text_tasks.proofs.CellLemmas.{line_input_is}
use Rattle.text_tasks.proofs.pipe_job.PipeJob.line_input.Goals as goal

pub returns : goal.returns
returns c =
    let tags = c.as_slice.ensures ∙ c.self.invariant.along ∙ ap (λ (work : PipeWork). along_pipes work.spec.lines work.spec.serial) c.self.view_is in
    let net = c.deref.ensures ∙ c.self.invariant.net ∙ ap (λ (work : PipeWork). pipe_net work.spec.lines work.spec.serial) c.self.view_is in
    c.input_along.ensures
    ∙ line_input_is c.args.self.now c.as_slice.result.now c.args.task c.strong_in.result.now (founds c.args.ins.now) tags (c.strong_in.ensures ∙ ap (λ rows. strong_in rows c.args.task) net)

use Rattle.std.proofs.Common.{ℕ, sym, ap, ◌∙◌}
use Rattle.graph_plans.specs.declared.pipes.LineOp.{LineOp}
use Rattle.text_tasks.specs.Cells.{pipe_input}
use Rattle.text_tasks.specs.PipeWork.{PipeWork, pipeline_of}
use Rattle.text_tasks.specs.inside.CellInputs.{next_place_of}
use Rattle.text_tasks.specs.inside.Finding.{founds}
use Rattle.text_tasks.proofs.CellLemmas.{first_cell_does, later_cell_does, next_place_is, op_at}
use Rattle.text_tasks.proofs.pipe_job.PipeJob.answer.Goals as goal

pub returns-then-pipe-eq0 : goal.returns-then-pipe-eq0
returns-then-pipe-eq0 c =
    let work = c.args.self.now in
    let task : ℕ = c.args.task in
    let found = founds c.args.ins.now in
    let op : LineOp = c.index-as_slice-pipe.result in
    let pipe : ℕ = c.pipe_of-pipe.result in
    let there = op_at work task c.as_slice.result.now pipe op (c.as_slice.ensures ∙ ap (λ (w : PipeWork). w.ops) c.self.view_is) c.pipe_of-pipe.ensures.pipe c.pipe_of-pipe.ensures.below c.index-as_slice-pipe.is in
    first_cell_does work task found op c.enter.result there c.next_place.result (sym c.pipe_of-pipe.ensures.pipe ∙ c.if-pipe-eq0.true)
    (c.next_place.ensures ∙ ap next_place_of c.pipe_input.ensures ∙ next_place_is work (pipe_input (pipeline_of work) task found)) c.enter.ensures

pub returns-else-pipe-eq0 : goal.returns-else-pipe-eq0
returns-else-pipe-eq0 c =
    let work = c.args.self.now in
    let task : ℕ = c.args.task in
    let found = founds c.args.ins.now in
    let op : LineOp = c.index-as_slice-pipe.result in
    let pipe : ℕ = c.pipe_of-pipe.result in
    let there = op_at work task c.as_slice.result.now pipe op (c.as_slice.ensures ∙ ap (λ (w : PipeWork). w.ops) c.self.view_is) c.pipe_of-pipe.ensures.pipe c.pipe_of-pipe.ensures.below c.index-as_slice-pipe.is in
    later_cell_does work task found op c.go_along.result there _ (λ is_first. c.if-pipe-eq0.false (c.pipe_of-pipe.ensures.pipe ∙ is_first)) c.line_input.ensures c.go_along.ensures

use Rattle.std.proofs.Common.{sym, ap, ◌∙◌}
use Rattle.std.specs.Prelude.{slice_get}
use Rattle.std.specs.Option.{option_copied}
use Rattle.text_tasks.specs.PipeWork.{PipeWork}
use Rattle.text_tasks.proofs.CellLemmas.{missing_part}
use Rattle.text_tasks.proofs.pipe_job.PipeJob.part.Goals as goal

pub returns-in-None : goal.returns-in-None
returns-in-None c =
    let none = ap (λ (work : PipeWork). slice_get work.parts c.args.number) (sym c.self.view_is) ∙ sym c.get.ensures ∙ ap option_copied c.in-None.is in
    c.new.ensures ∙ sym (missing_part c.args.self.now.parts c.args.number none)

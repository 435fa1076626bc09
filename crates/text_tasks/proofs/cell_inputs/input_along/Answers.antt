use Rattle.std.proofs.Common.{sym, ap, ◌∙◌}
use Rattle.join_words.specs.Ins.{parts_of}
use Rattle.text_tasks.specs.inside.CellInputs.{found_or, has_tag, input_tagged}
use Rattle.text_tasks.specs.inside.Finding.{founds}
use Rattle.text_tasks.proofs.CellLemmas.{input_here, input_next}
use Rattle.text_tasks.proofs.cell_inputs.input_along.Goals as goal

pub returns-then-leads_along : goal.returns-then-leads_along
returns-then-leads_along c =
    ap found_or c.get.ensures
    ∙ input_here (has_tag c.args.along_pipe.now c.args.pipe) c.args.edges.now (parts_of c.args.ins.now) c.loop-place.place c.loop-place-test.true
    (input_tagged c.args.along_pipe.now c.args.pipe c.args.edges.now (founds c.args.ins.now)) (sym c.leads_along.ensures ∙ c.if-leads_along.true) c.loop-place.invariant

pub loop-place-preserved : goal.loop-place-preserved
loop-place-preserved c =
    input_next (has_tag c.args.along_pipe.now c.args.pipe) c.args.edges.now (parts_of c.args.ins.now) c.loop-place.place c.loop-place-test.true
    (input_tagged c.args.along_pipe.now c.args.pipe c.args.edges.now (founds c.args.ins.now)) (sym c.leads_along.ensures ∙ c.if-leads_along.false) c.loop-place.invariant

use Rattle.std.proofs.Common.{◌∙◌, arith}
use Rattle.graph_generator.specs.GeneratedText.{text_lines}
use Rattle.graph_generator.proofs.DrawLemmas.{draws-length, lines-next}
use Rattle.graph_generator.proofs.text.text_of.Goals as goal

pub loop-number-init : goal.loop-number-init
unfolding text_lines
loop-number-init c = c.new-text.ensures

pub bounds-deref-number : goal.bounds-deref-number
bounds-deref-number c =
    let count = draws-length c.args.seed c.args.lines c.deref.result.now (c.deref.ensures ∙ c.in_ok-draws.ensures) in
    omega (arith, count, c.loop-number-test.true)

pub offset_bounds-deref-number : goal.offset_bounds-deref-number
offset_bounds-deref-number c =
    let count = draws-length c.args.seed c.args.lines c.deref.result.now (c.deref.ensures ∙ c.in_ok-draws.ensures) in
    omega (arith, count, c.loop-number-test.true, c.deref.type_inv.1)

pub loop-number-preserved : goal.loop-number-preserved
loop-number-preserved c =
    lines-next c.args.seed c.args.lines c.loop-number.number c.deref.result.now c.loop-number.text c.add_drawn_line.new.text c.loop-number-test.true (c.deref.ensures ∙ c.in_ok-draws.ensures)
    c.loop-number.invariant c.in_ok-add_drawn_line.ensures

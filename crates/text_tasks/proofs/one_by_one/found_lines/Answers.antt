use Rattle.std.proofs.Common.{◌∙◌, length, ap, arith}
use Rattle.text_ops.specs.Lines.{lines_of}
use Rattle.text_tasks.proofs.OneByOneLemmas.{lines_next, nothing_next}
use Rattle.text_tasks.proofs.one_by_one.found_lines.Goals as goal
use Rattle.text_tasks.proofs.one_by_one.found_lines.Goals.{in-Some+in-Some-checked_add, in_default}

pub loop-place-preserved : goal.loop-place-preserved
loop-place-preserved c =
    let ins = c.args.ins.now in
    elim c.match-text_of_edge.branch [
      | in-Some+in-Some-checked_add w ↦
          let here = w.line_count.ensures ∙ ap (λ text. length (lines_of text)) w.in-Some.ensures.value in
          omega (arith, w.lines-is, w.in-Some-checked_add.ensures.1, here, lines_next ins c.loop-place.place c.text_of_edge.ensures.normal, c.loop-place.invariant)
      | in_default w ↦ omega (arith, w.lines-is, ap (λ text. length (lines_of text)) (nothing_next ins c.loop-place.place w.in_default.ensures.value), c.loop-place.invariant)
    ]

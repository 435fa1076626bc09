use Rattle.std.proofs.Common.{◌+◌, ◌∙◌, sym, ap, subst, length, arith}
use Rattle.std.proofs.lemmas.Slice.{between_to_end}
use Rattle.text_ops.specs.Lines.{IsNormal}
use Rattle.text_ops.specs.TextMeaning.{word_lines}
use Rattle.text_ops.proofs.LineLemmas.{IsNormal-drop}
use Rattle.text_ops.proofs.WordLineLemmas.{word_lines-first, word_lines-nowhere, word_lines-le}
use Rattle.text_ops.proofs.word_search.lines_found.Goals as goal

pub overflow_add-lines : goal.overflow_add-lines
overflow_add-lines c =
    let line = word_lines-first c.args.word.now c.loop-line.rest.now c.in-Some.line c.in-Some.ensures.found in
    omega (arith, c.loop-line.invariant.0, line, word_lines-le c.args.word.now c.args.text.now c.requires.normal)

pub loop-line-preserved : goal.loop-line-preserved
loop-line-preserved c =
    let word = c.args.word.now in
    let rest = c.loop-line.rest.now in
    let end = c.in-Some.line.end in
    let tail = between_to_end rest end (length rest) (omega arith) in
    let line = word_lines-first word rest c.in-Some.line c.in-Some.ensures.found in
    (ap (λ left. c.loop-line.lines + 1 + word_lines word left) tail ∙ omega (arith, c.loop-line.invariant.0, line), subst IsNormal (sym tail) (IsNormal-drop rest end c.loop-line.invariant.1))

pub returns : goal.returns
returns c = omega (arith, c.loop-line.invariant.0, word_lines-nowhere c.args.word.now c.loop-line.rest.now c.in_default.ensures.none)

use Rattle.std.proofs.Common.{◌≡◌, arith, ◌∙◌, sym, subst, decimal, [], ◌∷◌}
use Rattle.std.proofs.lemmas.Fmt.{length-decimal-le}
use Rattle.text_ops.specs.Lines.{IsNormal, text_of}
use Rattle.text_ops.proofs.LineLemmas.{IsNormal-text_of}
use Rattle.text_ops.proofs.CountLemmas.{counted_line, length-counted-le}
use Rattle.text_ops.proofs.counts.count_line.Goals as goal
use Rattle.text_ops.proofs.counts.count_line.Goals.{In_ok-line}

pub write_digits-start-requires : goal.write_digits-start-requires
write_digits-start-requires c = (length-decimal-le 20 c.args.lines (omega arith) (omega arith) (omega (arith, c.ranges.lines.fits)), omega arith)

line_is : (c : In_ok-line) → c.in_ok-line.line ≡ text_of (decimal c.args.lines ∷ [])
line_is c = c.in_ok-line.ensures ∙ counted_line c.args.lines c.write_digits-start.new.buf c.write_digits-start.result c.write_digits-start.ensures.written (omega arith)

pub from_lines-requires : goal.from_lines-requires
from_lines-requires c = subst IsNormal (sym (line_is c)) (IsNormal-text_of (decimal c.args.lines ∷ []))

pub returns : goal.returns
returns c =
    let line = c.in_ok-line.ensures ∙ counted_line c.args.lines c.write_digits-start.new.buf c.write_digits-start.result c.write_digits-start.ensures.written (omega arith) in
    (c.in_ok-from_lines.ensures ∙ line, omega (arith, length-counted-le c.args.lines (omega (arith, c.ranges.lines.fits))))

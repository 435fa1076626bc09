use Rattle.std.proofs.Common.{◌≡◌, ◌+◌, length}
use Rattle.text_ops.specs.Lines.{IsNormal}
use Rattle.text_ops.specs.TextMeaning.{word_lines}
use Rattle.text_ops.proofs.word_search.lines_found.Given as goal

abbrev pub invariant-loop-line : goal.invariant-loop-line
invariant-loop-line l = (l.lines + word_lines l.word l.rest ≡ word_lines l.word l.text) × IsNormal l.rest

abbrev pub decreases-loop-line : goal.decreases-loop-line
decreases-loop-line l = length l.rest

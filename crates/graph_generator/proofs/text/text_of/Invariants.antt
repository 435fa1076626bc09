use Rattle.std.proofs.Common.{◌≡◌}
use Rattle.graph_generator.specs.GeneratedText.{text_lines}
use Rattle.graph_generator.proofs.text.text_of.Given as goal

abbrev pub invariant-loop-number : goal.invariant-loop-number
invariant-loop-number l = l.text ≡ text_lines l.seed l.number

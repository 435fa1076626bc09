use Rattle.std.proofs.lemmas.List.Elements.{All-from_recursion, recursion_from_All}
use Rattle.text_ops.specs.Lines.{lines_of, IsPlain}
use Rattle.text_ops.proofs.LineLemmas.{text_of-lines_of, lines_of-text_of}
use Rattle.text_ops.proofs.KeepLemmas.{lines_plain, occurs-stands, occurs-true}
use Rattle.text_ops.proofs.laws.lines_and_words.Goals as goal

pub returns-clause-whole : goal.returns-clause-whole
returns-clause-whole c = text_of-lines_of

pub returns-clause-plain : goal.returns-clause-plain
returns-clause-plain c text = All-from_recursion IsPlain (lines_of text) (lines_plain text)

pub returns-clause-only : goal.returns-clause-only
returns-clause-only c lines plain = lines_of-text_of lines (recursion_from_All IsPlain lines plain)

pub returns-clause-found : goal.returns-clause-found
returns-clause-found c word line = (occurs-stands word line, occurs-true word line)

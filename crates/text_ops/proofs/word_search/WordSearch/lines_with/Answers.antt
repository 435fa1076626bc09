use Rattle.std.proofs.Common.{◌∙◌, sym, ap}
use Rattle.std.proofs.lemmas.Bool.{eqb-true}
use Rattle.text_ops.specs.TextMeaning.{word_lines}
use Rattle.text_ops.proofs.KeepLemmas.{broken_word}
use Rattle.text_ops.proofs.LineLemmas.{count_by-lines_of}
use Rattle.text_ops.proofs.WordLineLemmas.{word_lines-empty, word_lines-broken}
use Rattle.text_ops.proofs.word_search.WordSearch.lines_with.Goals as goal

pub returns-then-is_empty : goal.returns-then-is_empty
returns-then-is_empty c =
    let empty = eqb-true _ 0 (sym c.is_empty.ensures ∙ c.if-is_empty.true) in
    c.line_ends.ensures ∙ count_by-lines_of c.args.text.now c.requires ∙ sym (word_lines-empty c.self.inside.word.now c.args.text.now empty) ∙ ap (λ word. word_lines word c.args.text.now) c.self.view_is

pub returns-then-is_some : goal.returns-then-is_some
returns-then-is_some c =
    let broken = broken_word c.self.inside.word.now _ c.memchr.ensures (sym c.is_some.ensures ∙ c.if-is_some.true) in
    sym (word_lines-broken c.self.inside.word.now c.args.text.now broken) ∙ ap (λ word. word_lines word c.args.text.now) c.self.view_is

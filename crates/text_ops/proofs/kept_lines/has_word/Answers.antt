use Rattle.std.proofs.Common.{◌∙◌, ◌==◌, sym, ap, not, length}
use Rattle.std.proofs.lemmas.Bool.{eqb-true}
use Rattle.text_ops.specs.TextMeaning.{has_word}
use Rattle.text_ops.proofs.KeepLemmas.{broken_word}
use Rattle.text_ops.proofs.HasWordLemmas.{has_word-first, has_word-empty, has_word-broken}
use Rattle.text_ops.proofs.kept_lines.has_word.Goals as goal

pub returns-then-is_empty : goal.returns-then-is_empty
returns-then-is_empty c =
    let empty = eqb-true _ 0 (sym c.is_empty.ensures ∙ c.if-is_empty.true) in
    ap not (c.is_empty-then-is_empty.ensures ∙ ap (λ text. length text == 0) c.as_slice-bytes.ensures.value)
    ∙ sym (has_word-empty c.args.word.now c.args.text.now empty c.as_slice-bytes.ensures.normal)

pub returns-then-is_some : goal.returns-then-is_some
returns-then-is_some c = sym (has_word-broken c.args.word.now c.args.text.now (broken_word c.args.word.now _ c.memchr.ensures (sym c.is_some.ensures ∙ c.if-is_some.true)))

pub returns : goal.returns
returns c =
    c.is_some-2.ensures ∙ has_word-first c.new.result c.as_slice-bytes.result.now c.first_kept-2.result c.first_kept-2.ensures.found c.first_kept-2.ensures.none
    ∙ ap (λ word. has_word word c.as_slice-bytes.result.now) c.new.ensures ∙ ap (has_word c.args.word.now) c.as_slice-bytes.ensures.value

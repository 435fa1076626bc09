use Rattle.std.proofs.Common.{sym, ◌∙◌, arith, subst, ap, length}
use Rattle.std.proofs.lemmas.Bool.{eqb-true}
use Rattle.text_ops.specs.Values.{Makes}
use Rattle.text_ops.proofs.KeepLemmas.{keep_meaning-empty_word, keep_meaning-broken_word, broken_word}
use Rattle.text_ops.proofs.kept_lines.keep.Goals as goal

pub returns-then-is_empty : goal.returns-then-is_empty
returns-then-is_empty c =
    let empty = eqb-true _ 0 (sym c.is_empty.ensures ∙ c.if-is_empty.true) in
    subst (λ value. Makes value c.pass.result) (sym (keep_meaning-empty_word c.args.word.now c.args.text.now empty c.pass.ensures.normal)) c.pass.ensures.value

pub returns-then-is_some : goal.returns-then-is_some
returns-then-is_some c =
    let broken = broken_word c.args.word.now _ c.memchr.ensures (sym c.is_some.ensures ∙ c.if-is_some.true) in
    let none = keep_meaning-broken_word c.args.word.now c.args.text.now broken in
    (c.new.ensures ∙ sym none, omega (arith, ap length none))

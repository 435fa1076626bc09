use Rattle.std.proofs.Common.{◌++◌, arith, ap, ◌∙◌, length, length-append, subst, sym}
use Rattle.text_ops.specs.Lines.{IsNormal}
use Rattle.text_ops.proofs.LineLemmas.{IsNormal-append}
use Rattle.text_tasks.specs.inside.Finding.{text_from}
use Rattle.text_tasks.proofs.FoundLemmas.{text_from_before, text_from_same}
use Rattle.text_tasks.proofs.found.found_len.Goals as goal

pub loop-place-preserved : goal.loop-place-preserved
loop-place-preserved c =
    let ins = c.args.ins.now in
    let behind = text_from ins c.loop-place.place in
    let text = c.bytes_at.result.now in
    let whole = text_from_before ins c.loop-place.place (omega (arith, c.loop-place-test.true)) ∙ ap (λ front. front ++ behind) (sym c.bytes_at.ensures.value) in
    let len = ap length whole ∙ length-append text behind in (
      omega (arith, len, c.in-Some.ensures.1, c.loop-place.invariant.0),
      subst IsNormal (sym whole) (IsNormal-append text behind c.bytes_at.ensures.normal c.loop-place.invariant.1),
      omega (arith, c.loop-place.invariant.2, c.loop-place-test.true),
    )

pub returns-clause-len : goal.returns-clause-len
returns-clause-len c = c.loop-place.invariant.0 ∙ ap length (text_from_same c.args.ins.now c.args.from c.loop-place.place (omega (arith, c.loop-place-test.false)) c.loop-place.invariant.2)

pub returns-clause-normal : goal.returns-clause-normal
returns-clause-normal c = subst IsNormal (text_from_same c.args.ins.now c.args.from c.loop-place.place (omega (arith, c.loop-place-test.false)) c.loop-place.invariant.2) c.loop-place.invariant.1

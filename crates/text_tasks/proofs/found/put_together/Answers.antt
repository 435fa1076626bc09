use Rattle.std.proofs.Common.{◌+◌, ◌++◌, ap, ◌∙◌, subst, sym}
use Rattle.text_ops.specs.Lines.{IsNormal}
use Rattle.text_ops.proofs.LineLemmas.{IsNormal-append}
use Rattle.text_tasks.specs.inside.Finding.{text_from}
use Rattle.text_tasks.proofs.FoundLemmas.{together_next}
use Rattle.text_tasks.proofs.found.put_together.Goals as goal

pub loop-place-preserved : goal.loop-place-preserved
loop-place-preserved c =
    let ins = c.args.ins.now in
    let bytes = c.loop-place.bytes in
    let made = c.in_ok-add_all.ensures.ok in
    let together = made ∙ ap (λ text. bytes ++ text) c.bytes_at.ensures.value in (
      ap (λ front. front ++ text_from ins (c.loop-place.place + 1)) together ∙ together_next bytes ins c.loop-place.place ∙ c.loop-place.invariant.0,
      subst IsNormal (sym made) (IsNormal-append bytes c.bytes_at.result.now c.loop-place.invariant.1 c.bytes_at.ensures.normal),
    )

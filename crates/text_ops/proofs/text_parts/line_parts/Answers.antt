use Rattle.std.proofs.Common.{◌≡◌, ◌+◌, ◌∙◌, List, ℕ, [], ◌∷◌, ◌++◌, length, drop, refl, sym, ap, subst, arith}
use Rattle.std.specs.List.{between}
use Rattle.std.proofs.lemmas.Slice.{between_to_end}
use Rattle.text_ops.specs.Lines.{IsNormal}
use Rattle.text_ops.specs.LineParts.{IsCut}
use Rattle.text_ops.specs.inside.Parting.{PartsSoFar}
use Rattle.text_ops.proofs.CutLemmas.{IsNormal-behind}
use Rattle.text_ops.proofs.PartLemmas.{PartsSoFar-next}
use Rattle.text_ops.proofs.text_parts.line_parts.Goals as goal

pub end_of_first-requires : goal.end_of_first-requires
end_of_first-requires c =
    let bytes : List ℕ = c.as_slice-bytes.result.now in
    IsNormal-behind bytes bytes c.loop-part.place refl (subst IsNormal (sym c.as_slice-bytes.ensures.value) c.as_slice-bytes.ensures.normal)

pub loop-part-preserved : goal.loop-part-preserved
loop-part-preserved c =
    let text : List ℕ = c.args.text.now in
    let place : ℕ = c.loop-part.place in
    let gap : ℕ = c.end_of_first.result in
    let parts : List (List ℕ) = c.loop-part.parts in
    let bytes : List ℕ = c.as_slice-bytes.result.now in
    let rest : between place (length bytes) bytes ≡ drop place text =
    between_to_end bytes place (length bytes) (omega arith) ∙ ap (drop place) c.as_slice-bytes.ensures.value in
    let cut : IsCut (drop place text) c.args.n gap = subst (λ l. IsCut l c.args.n gap) rest c.end_of_first.ensures in
    let made : c.push.new.self ≡ parts ++ between place (place + gap) text ∷ [] =
    c.in_ok-push.ensures.ok ∙ ap (λ part. parts ++ part ∷ []) c.in_ok-cut.ensures in
    subst (λ l. PartsSoFar c.args.n text l (c.loop-part._part + 1) (place + gap)) (sym made)
    (PartsSoFar-next c.args.n text parts c.loop-part._part place gap c.loop-part.invariant cut)

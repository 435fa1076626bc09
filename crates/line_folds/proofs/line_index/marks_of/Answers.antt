use Rattle.std.proofs.Common.{◌≡◌, ◌+◌, ◌*◌, ◌-◌, ◌<◌, ◌∙◌, ◌++◌, ◌∷◌, [], ap, sym, subst, length, drop, arith, length-drop}
use Rattle.std.proofs.lemmas.List.{length_push}
use Rattle.std.specs.Prelude.{slice_index}
use Rattle.text_ops.specs.Lines.{IsNormal, lines_of}
use Rattle.text_ops.specs.LineParts.{IsCut}
use Rattle.text_ops.proofs.LineLemmas.{IsNormal-drop}
use Rattle.line_folds.specs.inside.Marks.{mark_step}
use Rattle.line_folds.proofs.MarkLemmas.{IsCut-further, IsCut-moves, IsNormal-behind, behind, each_more, more_lines}
use Rattle.line_folds.proofs.line_index.marks_of.Goals as goal
use Rattle.line_folds.proofs.line_index.marks_of.Goals.{After-end_of_first-at}

pub end_of_first-at-requires : goal.end_of_first-at-requires
end_of_first-at-requires c = IsNormal-behind c.args.text.now c.loop-at.at c.requires

-- the next 1,000 lines end behind the place
next_cut : (c : After-end_of_first-at) → IsCut (drop c.loop-at.at c.args.text.now) mark_step c.end_of_first-at.result
next_cut c = subst (λ rest. IsCut rest mark_step c.end_of_first-at.result) (behind c.args.text.now c.loop-at.at) c.end_of_first-at.ensures

pub loop-at-smaller : goal.loop-at-smaller
loop-at-smaller c =
    let text = c.args.text.now in
    let at = c.loop-at.at in
    let some = c.loop-at-test.true in
    let moves = IsCut-moves (drop at text) mark_step c.end_of_first-at.result (IsNormal-drop text at c.requires) (omega (arith, some, length-drop at text)) (omega arith) (next_cut c) in
    omega (arith, moves, some)

pub loop-at-preserved : goal.loop-at-preserved
loop-at-preserved c =
    let text = c.args.text.now in
    let marks = c.loop-at.marks.items in
    let at = c.loop-at.at in
    let further = IsCut-further text (length marks * mark_step) mark_step at c.end_of_first-at.result c.loop-at.invariant.1 (next_cut c) in
    let behind_last = more_lines text (length marks * mark_step) at c.requires c.loop-at.invariant.1 c.loop-at-test.true in
    let more : length marks * mark_step + mark_step ≡ length (marks ++ at ∷ []) * mark_step = omega (arith, length_push marks at) in
    subst
    (λ items. ((k : _) → k < length items → IsCut text (k * mark_step) (slice_index items k)) × IsCut text (length items * mark_step) (at + c.end_of_first-at.result)
    × (length items * mark_step < length (lines_of text) + mark_step))
    (sym c.in_ok-push.ensures.items)
    (each_more text marks at c.loop-at.invariant.0 c.loop-at.invariant.1, subst (λ n. IsCut text n (at + c.end_of_first-at.result)) more further, omega (arith, behind_last, more))

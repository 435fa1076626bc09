use Rattle.std.proofs.Common.{refl, sym, ap, ◌∙◌, ◌<◌, ◌&&◌, length, not, false, arith}
use Rattle.std.specs.Prelude.{slice_index, slice_index_or}
use Rattle.std.proofs.lemmas.List.{get_or_default}
use Rattle.legal_run.proofs.Marking.{marked_none, marked_more}
use Rattle.legal_run.proofs.marks.mark_each.Goals as goal
use Rattle.legal_run.proofs.marks.mark_each.Goals.{then-distinct, else-distinct}

pub loop-number-init : goal.loop-number-init
loop-number-init c = marked_none c.args.flags.now.items c.requires.clear

pub loop-number-preserved : goal.loop-number-preserved
loop-number-preserved c =
    let number = slice_index c.args.numbers.now c.loop-number.number-index in
    let below : number < length c.args.flags.now.items = c.requires.in_range c.loop-number.number-index 0 c.loop-number-test.true in
    let within : number < length c.loop-number.flags.items = omega (arith, below, c.loop-number.invariant.len) in
    elim c.if-distinct.branch [
      | then-distinct w ↦
          (marked_more _ _ c.loop-number.distinct w.index.result.now _ _ _ number c.loop-number-test.true refl below c.loop-number.invariant w.index.ensures
          (w.distinct-is ∙ ap (λ b. b && not w.index.result.now) (sym w.if-distinct.true)))
      | else-distinct w ↦
          (marked_more _ _ c.loop-number.distinct (slice_index_or c.loop-number.flags.items number false) _ _ _ number c.loop-number-test.true refl below c.loop-number.invariant
          (get_or_default c.loop-number.flags.items number false (slice_index_or c.loop-number.flags.items number false) within)
          (w.distinct-is ∙ w.if-distinct.false ∙ ap (λ b. b && not (slice_index_or c.loop-number.flags.items number false)) (sym w.if-distinct.false)))
    ]

use Rattle.std.proofs.Common.{◌∙◌, ◌+◌, ◌<◌, ◌^◌, rules, refl, sym, ap, subst, arith, length}
use Rattle.text_ops.specs.declared.sort_key.Piece.TheVariants.{Whole}
use Rattle.text_ops.specs.Lines.{IsNormal}
use Rattle.text_ops.specs.Values.{Makes}
use Rattle.text_ops.proofs.SortLemmas.{gathered_normal}
use Rattle.text_ops.specs.inside.SortKeys.{AreSortedKeys, keyed_piece}
use Rattle.text_ops.proofs.TallyLemmas.{TallySoFar-start}
use Rattle.text_ops.proofs.TallySteps.{ordered_is, run_some, run_inside, next_tally, tally_end, IsNormal-tally}
use Rattle.text_ops.proofs.tallies.tally_by_sort_keys.Goals as goal

pub loop-at-init : goal.loop-at-init
loop-at-init g c =
    let text = c.args.text.now in
    let sorted = subst (AreSortedKeys Whole text) (sym c.as_slice-sort_keys.ensures.value) c.in_ok-sort_keys.ensures in
    TallySoFar-start text _ c.new-made.result (ordered_is text text c.as_slice-sort_keys.result.now refl c.requires.normal sorted) c.new-made.ensures

pub overflow_add-at : goal.overflow_add-at
overflow_add-at g c =
    let text = c.args.text.now in
    let sort_keys = c.as_slice-sort_keys.result.now in
    let sorted = subst (AreSortedKeys Whole text) (sym c.as_slice-sort_keys.ensures.value) c.in_ok-sort_keys.ensures in
    let inside = run_inside text text sort_keys refl c.requires.normal sorted c.loop-at.at c.loop-at-test.true c.index-sort_keys-at.result c.run_length-count.result c.run_length-count.ensures in
    let few : c.loop-at.at + c.run_length-count.result < 2 ^ 63 = omega (arith, inside, ap length c.as_slice-sort_keys.ensures.value, c.in_ok-sort_keys.sort_keys.ok, c.in_ok-sort_keys.sort_keys.small) in
    search rules

pub loop-at-smaller : goal.loop-at-smaller
loop-at-smaller g c =
    let text = c.args.text.now in
    let sort_keys = c.as_slice-sort_keys.result.now in
    let sorted = subst (AreSortedKeys Whole text) (sym c.as_slice-sort_keys.ensures.value) c.in_ok-sort_keys.ensures in
    let some = run_some text text sort_keys refl c.requires.normal sorted c.loop-at.at c.loop-at-test.true c.index-sort_keys-at.result c.run_length-count.result c.run_length-count.ensures in
    omega (arith, some, c.loop-at-test.true)

pub loop-at-preserved : goal.loop-at-preserved
loop-at-preserved g c =
    let text = c.args.text.now in
    let sort_keys = c.as_slice-sort_keys.result.now in
    let sorted = subst (AreSortedKeys Whole text) (sym c.as_slice-sort_keys.ensures.value) c.in_ok-sort_keys.ensures in
    next_tally text text sort_keys refl c.requires.normal sorted c.loop-at.at c.loop-at-test.true c.index-sort_keys-at.result
    c.loop-at.made c.add_counted.new.made c.keyed_piece.result.now c.run_length-count.result c.loop-at.invariant c.run_length-count.ensures (c.keyed_piece.ensures ∙ ap (keyed_piece text) c.index-sort_keys-at.is) c.in_ok-add_counted.ensures

pub returns : goal.returns
returns g c =
    let text = c.args.text.now in
    let sort_keys = c.as_slice-sort_keys.result.now in
    let sorted = subst (AreSortedKeys Whole text) (sym c.as_slice-sort_keys.ensures.value) c.in_ok-sort_keys.ensures in
    let so_far = c.loop-at.invariant in
    subst (λ value. Makes value c.finish.result)
    (tally_end text text sort_keys refl c.requires.normal sorted c.loop-at.at c.loop-at.made so_far c.loop-at-test.false)
    (c.finish.ensures so_far.all so_far.gathered)

pub finish-requires : goal.finish-requires
finish-requires g c =
    let text = c.args.text.now in
    let sort_keys = c.as_slice-sort_keys.result.now in
    let sorted = subst (AreSortedKeys Whole text) (sym c.as_slice-sort_keys.ensures.value) c.in_ok-sort_keys.ensures in
    let so_far = c.loop-at.invariant in
    let whole = tally_end text text sort_keys refl c.requires.normal sorted c.loop-at.at c.loop-at.made so_far c.loop-at-test.false in
    gathered_normal so_far.all c.loop-at.made so_far.gathered (subst IsNormal (sym whole) (IsNormal-tally text))

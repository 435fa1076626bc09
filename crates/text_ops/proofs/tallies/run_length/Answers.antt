use Rattle.std.proofs.Common.{◌∙◌, sym, ap, arith, below_more}
use Rattle.std.proofs.lemmas.List.{get_or_default}
use Rattle.text_ops.specs.inside.SortKeys.{keyed_piece}
use Rattle.text_ops.proofs.TallyLemmas.{run_sort_keys}
use Rattle.text_ops.proofs.TallySteps.{differs, equal}
use Rattle.text_ops.proofs.SortKeyLemmas.{no_sort_key}
use Rattle.text_ops.proofs.tallies.run_length.Goals as goal

pub loop-k-preserved : goal.loop-k-preserved
loop-k-preserved g c =
    let here = c.index-sort_keys-k.is ∙ get_or_default c.args.sort_keys.now c.loop-k.k c.index-sort_keys-k.result no_sort_key c.loop-k-test.true in
    below_more _ _ c.loop-k.invariant (ap (keyed_piece c.args.text.now) (sym here) ∙ sym c.keyed_piece.ensures ∙ equal c.keyed_piece.result.now c.keyed_piece-first.result.now c.ne.result c.ne.ensures c.if-ne.false)

pub returns-then-ne : goal.returns-then-ne
returns-then-ne g c =
    let first = c.keyed_piece-first.ensures ∙ ap (keyed_piece c.args.text.now) (c.index-sort_keys-0.is ∙ get_or_default c.args.sort_keys.now 0 c.index-sort_keys-0.result no_sort_key c.requires) in
    let here = c.keyed_piece.ensures ∙ ap (keyed_piece c.args.text.now) (c.index-sort_keys-k.is ∙ get_or_default c.args.sort_keys.now c.loop-k.k c.index-sort_keys-k.result no_sort_key c.loop-k-test.true) in
    run_sort_keys (keyed_piece c.args.text.now) c.args.sort_keys.now c.loop-k.k no_sort_key c.requires (omega arith)
    (λ j low. c.loop-k.invariant j low ∙ first)
    (λ _ same. differs c.keyed_piece.result.now c.keyed_piece-first.result.now c.ne.result c.ne.ensures c.if-ne.true (here ∙ same ∙ sym first))

pub returns : goal.returns
returns g c =
    let first = c.keyed_piece-first.ensures ∙ ap (keyed_piece c.args.text.now) (c.index-sort_keys-0.is ∙ get_or_default c.args.sort_keys.now 0 c.index-sort_keys-0.result no_sort_key c.requires) in
    run_sort_keys (keyed_piece c.args.text.now) c.args.sort_keys.now _ no_sort_key c.requires (omega arith)
    (λ j low. c.loop-k.invariant j (omega arith) ∙ first)
    (λ low. absurd (omega arith))

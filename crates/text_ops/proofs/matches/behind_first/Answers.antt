use Rattle.std.proofs.Common.{◌∙◌, Some, sym, ap, arith}
use Rattle.std.specs.Option.{option_map, option_copied}
use Rattle.text_ops.specs.MatchKeys.{behind_key}
use Rattle.text_ops.specs.inside.SortKeys.{keyed_piece}
use Rattle.text_ops.specs.inside.Matching.{behind_sort_key}
use Rattle.text_ops.proofs.SortKeyLemmas.{no_sort_key}
use Rattle.text_ops.proofs.FoundKeys.{found_key, no_key}
use Rattle.text_ops.proofs.TallySteps.{differs, equal}
use Rattle.text_ops.proofs.matches.behind_first.Goals as goal

pub returns-in_err-sort_key : goal.returns-in_err-sort_key
returns-in_err-sort_key g c =
    ap option_copied c.from_residual.ensures
    ∙ sym (ap (option_map behind_key)
    (no_key c.args.text.now c.args.key.now c.args.sort_keys.now c.requires.sort_keys c.requires.normal c.first_place-place.result c.first_place-place.ensures no_sort_key
    (λ inside. absurd (omega (arith, c.in_err-sort_key.ensures.lookup.3)))))

pub returns-then-ne : goal.returns-then-ne
returns-then-ne g c =
    let is = c.in_ok-sort_key.ensures.lookup.3.1 no_sort_key in
    sym (ap (option_map behind_key)
    (no_key c.args.text.now c.args.key.now c.args.sort_keys.now c.requires.sort_keys c.requires.normal c.first_place-place.result c.first_place-place.ensures no_sort_key
    (λ inside same. differs c.keyed_piece.result.now c.args.key.now c.ne.result c.ne.ensures c.if-ne.true (c.keyed_piece.ensures ∙ ap (keyed_piece c.args.text.now) is ∙ same))))

pub returns : goal.returns
returns g c =
    let is = c.in_ok-sort_key.ensures.lookup.3.1 no_sort_key in
    ap Some (c.behind.ensures ∙ ap (behind_sort_key c.args.text.now) is)
    ∙ sym (found_key c.args.text.now c.args.key.now c.args.sort_keys.now c.requires.sort_keys c.requires.normal c.first_place-place.result c.first_place-place.ensures no_sort_key c.in_ok-sort_key.ensures.lookup.3.0
    (ap (keyed_piece c.args.text.now) (sym is) ∙ sym c.keyed_piece.ensures ∙ equal c.keyed_piece.result.now c.args.key.now c.ne.result c.ne.ensures c.if-ne.false))

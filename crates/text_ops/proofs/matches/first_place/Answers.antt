use Rattle.std.proofs.Common.{rules, arith}
use Rattle.std.proofs.lemmas.Fn.{always_returns_same}
use Rattle.text_ops.specs.inside.Matching.{is_before}
use Rattle.text_ops.proofs.FoundKeys.{partitioned, first_place}
use Rattle.text_ops.proofs.matches.first_place.Goals as goal

pub returns : goal.returns
returns g c =
    let place = c.partition_point.ensures.partitioned (is_before c.args.text.now c.args.key.now) (always_returns_same _ _ _ (λ a r q h. (search rules, search rules)))
    (partitioned c.args.text.now c.args.key.now c.args.sort_keys.now c.requires.sort_keys c.requires.normal (λ k. omega (arith, c.type_inv.key k))) in
    first_place c.args.text.now c.args.key.now c.args.sort_keys.now c.requires.sort_keys c.requires.normal (λ k. omega (arith, c.type_inv.key k)) c.partition_point.result c.partition_point.ensures.bound place.0 place.1

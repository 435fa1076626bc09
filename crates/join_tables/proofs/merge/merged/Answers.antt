use Rattle.std.proofs.Common.{rules, ◌≡◌, ◌<◌, length, None, replicate, sym, ap, ◌∙◌, subst}
use Rattle.std.specs.List.{AllByRecursion}
use Rattle.std.proofs.lemmas.List.{length-replicate}
use Rattle.join_tables.specs.Keeping.{entries_told}
use Rattle.join_tables.specs.inside.Merging.{all_rows}
use Rattle.join_tables.proofs.Merging.{all_rows_below}
use Rattle.join_tables.proofs.merge.merged.Goals as goal

pub put_all-requires : goal.put_all-requires
put_all-requires g c =
    let fates = c.args.fates.items in let places = c.in_ok-places.places.items in
    let is : places ≡ replicate (length (entries_told fates)) None = search rules in
    subst (λ n. AllByRecursion (λ x. x.0 < n) (all_rows fates)) (sym (ap length is ∙ length-replicate (length (entries_told fates)) None)) (all_rows_below (length (entries_told fates)) fates c.requires)
